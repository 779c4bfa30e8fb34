-- What packed sections say.
use Rattle.std.specs.Prelude.{◌≡◌, ℕ, ◌+◌, ◌≤◌, List, [], ◌∷◌, length, map, take, drop}
use Rattle.std.specs.List.{AllByRecursion}
use Rattle.covdata.specs.Row.{ItemData, SectData}
use Rattle.covpacked.specs.declared.packed_sects.ClosedSect.{ClosedSect}
use Rattle.covpacked.specs.declared.packed_sects.TextPlace.{TextPlace}
use Rattle.covpacked.specs.Layout.{HasText, LieBetween}
use Rattle.covpacked.specs.Words.{item_of, text_at}

-- the sections that are closed, and the items of the open one
pub record PackedData : Type 0 where
  pub sects : List SectData
  pub items : List ItemData

-- the items of these words
abbrev pub items_of : List ℕ → List ℕ → List ℕ → List ItemData
items_of numbers texts words = map (item_of numbers texts) words

-- the closed sections: each has as many of the items as it says, the first section the first items
abbrev pub sects_of : List ℕ → List ItemData → List ClosedSect → List SectData
sects_of texts items [] = []
sects_of texts items (s ∷ sects) =
    record { test = text_at texts s.test.begin s.test.bytes; file = text_at texts s.file.begin s.file.bytes; items = take s.items items }
    ∷ sects_of texts (drop s.items items) sects

-- how many items the closed sections have
abbrev pub closed_items : List ClosedSect → ℕ
closed_items [] = 0
closed_items (s ∷ sects) = s.items + closed_items sects

-- the texts of a section are in the list of texts
pub record HasTexts (texts : List ℕ) (s : ClosedSect) : Type 0 where
  pub test : s.test.begin + s.test.bytes ≤ length texts
  pub file : s.file.begin + s.file.bytes ≤ length texts

-- numbers and texts of all items and sections are in their lists
pub record ArePacked (numbers texts words : List ℕ) (sects : List ClosedSect) (closed : ℕ) : Type 0 where
  pub all : closed ≡ closed_items sects
  pub few : closed ≤ length words
  pub lie : LieBetween (length numbers) 0 words
  pub item_texts : AllByRecursion (HasText numbers texts) words
  pub names : AllByRecursion (HasTexts texts) sects

-- what these lists say. The first `closed` words are those of the closed sections
abbrev pub packed_data : List ℕ → List ℕ → List ℕ → List ClosedSect → ℕ → PackedData
packed_data numbers texts words sects closed = record { sects = sects_of texts (items_of numbers texts words) sects; items = drop closed (items_of numbers texts words) }

-- the text is in the list of texts at this place
pub record IsTextAt (texts text : List ℕ) (place : TextPlace) : Type 0 where
  pub is : text_at texts place.begin place.bytes ≡ text
  pub fits : place.begin + place.bytes ≤ length texts

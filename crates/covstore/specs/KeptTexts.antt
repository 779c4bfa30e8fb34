-- The texts of a file's checksums, in a list. Each line with a text has an index of its own in the list.
use Rattle.std.specs.Prelude.{◌≡◌, ℕ, ◌<◌, ◌≤◌, true, List, [], ◌∷◌, length, slice_index_or}
use Rattle.std.specs.List.{AllByRecursion}
use Rattle.std.specs.Option.{is_some}
use Rattle.std.specs.Ordering.{nat_cmp}
use Rattle.covmap.specs.MapData.{MapData}
use Rattle.covmap.specs.Puts.{value_of}

-- the texts by line, ascending. `committed` has the texts that are kept after a refusal, and `staged` has all texts
pub record KeptTextsData : Type 0 where
  pub committed : List (ℕ × List ℕ)
  pub staged : List (ℕ × List ℕ)

-- each line with the text at the line's index. `places` has the indexes by line
abbrev pub texts_at : List (List ℕ) → List (ℕ × ℕ) → List (ℕ × List ℕ)
texts_at texts [] = []
texts_at texts (place ∷ places) = (place.0, slice_index_or texts place.1 []) ∷ texts_at texts places

abbrev pub kept_texts : MapData ℕ ℕ → List (List ℕ) → KeptTextsData
kept_texts places texts = record { committed = texts_at texts places.committed; staged = texts_at texts places.staged }

-- each line's index is below `count`
abbrev pub AreBelow : ℕ → List (ℕ × ℕ) → Type 0
AreBelow count places = AllByRecursion (λ place. place.1 < count) places

-- each line with an index keeps it
abbrev pub StayAt : List (ℕ × ℕ) → List (ℕ × ℕ) → Type 0
StayAt places more = (line : ℕ) → is_some (value_of nat_cmp line places) ≡ true → value_of nat_cmp line more ≡ value_of nat_cmp line places

-- no two lines have the same index
abbrev pub AreApart : List (ℕ × ℕ) → Type 0
AreApart places = (line other : ℕ) → is_some (value_of nat_cmp line places) ≡ true → value_of nat_cmp line places ≡ value_of nat_cmp other places → line ≡ other

-- each line that has a text has an index of its own in the list of texts, and each text in the list is that of some line. The
-- first `committed` texts are those of the lines with a committed index
pub record ArePlaced (places : MapData ℕ ℕ) (texts : List (List ℕ)) (committed : ℕ) : Type 0 where
  pub committed_below : AreBelow committed places.committed
  pub staged_below : AreBelow (length texts) places.staged
  pub committed_fits : committed ≤ length texts
  pub committed_all : committed ≡ length places.committed
  pub staged_all : length texts ≡ length places.staged
  pub stay : StayAt places.committed places.staged
  pub apart : AreApart places.staged

-- each line with a text in `texts` has a text in `more`
abbrev pub StillHave : List (ℕ × List ℕ) → List (ℕ × List ℕ) → Type 0
StillHave texts more = (line : ℕ) → is_some (value_of nat_cmp line texts) ≡ true → is_some (value_of nat_cmp line more) ≡ true

-- each line with a committed text has the same text in `staged`
abbrev pub AreCommitted : KeptTextsData → Type 0
AreCommitted kept = (line : ℕ) → is_some (value_of nat_cmp line kept.committed) ≡ true → value_of nat_cmp line kept.staged ≡ value_of nat_cmp line kept.committed

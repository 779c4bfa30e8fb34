-- A closed section gets another name.
use Rattle.std.proofs.Common.{◌≡◌, ℕ, zero, suc, ◌+◌, ◌<◌, ◌≤◌, List, [], ◌∷◌, length, take, drop, get_or, slice_set, refl, sym, ap, ◌∙◌, subst, arith}
use Rattle.std.specs.List.{AllByRecursion}
use Rattle.std.specs.Prelude.{Option, None, Some, option_map, slice_get}
use Rattle.covdata.specs.Row.{ItemData, SectData}
use Rattle.covpacked.specs.declared.packed_sects.ClosedSect.{ClosedSect}
use Rattle.covpacked.specs.declared.packed_sects.TextPlace.{TextPlace}
use Rattle.covpacked.specs.Layout.{BeginWith}
use Rattle.covpacked.specs.NewNames.{file_set, test_set}
use Rattle.covpacked.specs.PackedView.{ArePacked, HasTexts, IsTextAt, PackedData, closed_items, items_of, packed_data, sects_of}
use Rattle.covpacked.specs.Words.{text_at}
use Rattle.covpacked.proofs.Closes.{named_ok}
use Rattle.covpacked.proofs.Lasts.{as_many_closed}

-- ---- one element of a list

-- what holds of all elements holds of the one at this index
all_at : {X : Type 0} (P : X → Type 0) (xs : List X) (index : ℕ) (x : X) → index < length xs → x ≡ get_or xs index x → AllByRecursion P xs → P x
all_at P [] index x within found all = absurd (omega (arith, within))
all_at P (y ∷ xs) zero x within found all = subst P (sym found) all.0
all_at P (y ∷ xs) (suc index) x within found all = all_at P xs index x (omega (arith, within)) found all.1

-- and of all elements if that one is replaced by another of which it holds
all_but : {X : Type 0} (P : X → Type 0) (xs : List X) (index : ℕ) (x : X) → P x → AllByRecursion P xs → AllByRecursion P (slice_set xs index x)
all_but P [] index x new all = all
all_but P (y ∷ xs) zero x new all = (new, all.1)
all_but P (y ∷ xs) (suc index) x new all = (all.0, all_but P xs index x new all.1)

-- ---- closed sections

-- a section is replaced by one with as many items
same_items : (sects : List ClosedSect) (index : ℕ) (s new : ClosedSect) → index < length sects → s ≡ get_or sects index s → new.items ≡ s.items
    → closed_items (slice_set sects index new) ≡ closed_items sects
same_items [] index s new within found same = absurd (omega (arith, within))
same_items (t ∷ sects) zero s new within found same = ap (λ (n : ℕ). n + closed_items sects) (same ∙ ap (λ (u : ClosedSect). u.items) found)
same_items (t ∷ sects) (suc index) s new within found same = ap (λ (n : ℕ). t.items + n) (same_items sects index s new (omega (arith, within)) found same)

-- the index is that of a closed section
pub closed_within : (numbers texts words : List ℕ) (sects : List ClosedSect) (closed : ℕ) (now : PackedData) → packed_data numbers texts words sects closed ≡ now
    → (index : ℕ) → index < length now.sects → index < length sects
closed_within numbers texts words sects closed now view index within =
    let l = as_many_closed texts (items_of numbers texts words) sects in
    let e = ap (λ (d : PackedData). length d.sects) view in
    omega (arith, within, l, e)

-- a section is replaced after the texts grew
pub replaced_ok : (numbers texts words : List ℕ) (sects : List ClosedSect) (closed : ℕ) → ArePacked numbers texts words sects closed
    → (after : List ℕ) → BeginWith after texts → (index : ℕ) (s new : ClosedSect) → index < length sects → s ≡ get_or sects index s → new.items ≡ s.items
    → (HasTexts after s → HasTexts after new) → ArePacked numbers after words (slice_set sects index new) closed
replaced_ok numbers texts words sects closed ok after grows index s new within found same has =
    let own = named_ok numbers texts words sects closed ok after grows in
    record {
      all = own.all ∙ sym (same_items sects index s new within found same);
      few = own.few;
      lie = own.lie;
      item_texts = own.item_texts;
      names = all_but (HasTexts after) sects index new (has (all_at (HasTexts after) sects index s within found own.names)) own.names;
    }

module _ (texts : List ℕ) (s : ClosedSect) (place : TextPlace) (name : List ℕ) (is : text_at texts place.begin place.bytes ≡ name) where
  -- the section's file is at another place
  pub file_named : (items : List ItemData) (sects : List ClosedSect) (index : ℕ) → index < length sects → s ≡ get_or sects index s
      → sects_of texts items (slice_set sects index (record { test = s.test; file = place; items = s.items })) ≡ file_set index name (sects_of texts items sects)
  file_named items [] index within found = absurd (omega (arith, within))
  file_named items (t ∷ sects) zero within found =
      ap (λ (f : List ℕ). record { test = text_at texts s.test.begin s.test.bytes; file = f; items = take s.items items } ∷ sects_of texts (drop s.items items) sects) is
      ∙ ap (λ (u : ClosedSect). record { test = text_at texts u.test.begin u.test.bytes; file = name; items = take u.items items } ∷ sects_of texts (drop u.items items) sects) found
  file_named items (t ∷ sects) (suc index) within found =
      ap (λ (rest : List SectData). record { test = text_at texts t.test.begin t.test.bytes; file = text_at texts t.file.begin t.file.bytes; items = take t.items items } ∷ rest)
      (file_named (drop t.items items) sects index (omega (arith, within)) found)

  -- and its test
  pub test_named : (items : List ItemData) (sects : List ClosedSect) (index : ℕ) → index < length sects → s ≡ get_or sects index s
      → sects_of texts items (slice_set sects index (record { test = place; file = s.file; items = s.items })) ≡ test_set index name (sects_of texts items sects)
  test_named items [] index within found = absurd (omega (arith, within))
  test_named items (t ∷ sects) zero within found =
      ap (λ (f : List ℕ). record { test = f; file = text_at texts s.file.begin s.file.bytes; items = take s.items items } ∷ sects_of texts (drop s.items items) sects) is
      ∙ ap (λ (u : ClosedSect). record { test = name; file = text_at texts u.file.begin u.file.bytes; items = take u.items items } ∷ sects_of texts (drop u.items items) sects) found
  test_named items (t ∷ sects) (suc index) within found =
      ap (λ (rest : List SectData). record { test = text_at texts t.test.begin t.test.bytes; file = text_at texts t.file.begin t.file.bytes; items = take t.items items } ∷ rest)
      (test_named (drop t.items items) sects index (omega (arith, within)) found)

-- ---- reading a section's file

pub file_found : (texts : List ℕ) (items : List ItemData) (sects : List ClosedSect) (index : ℕ) (s : ClosedSect) → index < length sects → s ≡ get_or sects index s
    → option_map (λ (sect : SectData). sect.file) (slice_get (sects_of texts items sects) index) ≡ Some (text_at texts s.file.begin s.file.bytes)
file_found texts items [] index s within found = absurd (omega (arith, within))
file_found texts items (t ∷ sects) zero s within found = ap (λ (u : ClosedSect). Some (text_at texts u.file.begin u.file.bytes)) (sym found)
file_found texts items (t ∷ sects) (suc index) s within found = file_found texts (drop t.items items) sects index s (omega (arith, within)) found

pub no_file_found : (texts : List ℕ) (items : List ItemData) (sects : List ClosedSect) (index : ℕ) → length sects ≤ index
    → option_map (λ (sect : SectData). sect.file) (slice_get (sects_of texts items sects) index) ≡ None
no_file_found texts items [] index beyond = refl
no_file_found texts items (t ∷ sects) zero beyond = absurd (omega (arith, beyond))
no_file_found texts items (t ∷ sects) (suc index) beyond = no_file_found texts (drop t.items items) sects index (omega (arith, beyond))

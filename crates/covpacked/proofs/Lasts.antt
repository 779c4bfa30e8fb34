-- The last element of a list, and the test of the last section.
use Rattle.std.proofs.Common.{◌≡◌, ℕ, suc, ◌+◌, ◌-◌, ◌<◌, List, [], ◌∷◌, ◌++◌, length, drop, take, Some, refl, sym, ap, ◌∙◌, arith}
use Rattle.std.specs.Prelude.{slice_get}
use Rattle.std.proofs.lemmas.List.{take_all, take_more}
use Rattle.std.proofs.lemmas.Option.{get_or_from_slice_get, slice_get_within}
use Rattle.covdata.specs.Row.{ItemData, SectData}
use Rattle.covpacked.specs.PackedView.{sects_of}
use Rattle.covpacked.specs.ReadTexts.{IsLastTest}
use Rattle.covpacked.specs.Words.{text_at}
use Rattle.covpacked.specs.declared.packed_sects.ClosedSect.{ClosedSect}

pub last_parts : {X : Type 0} (xs : List X) (last : X) → slice_get xs (length xs - 1) ≡ Some last → xs ≡ take (length xs - 1) xs ++ last ∷ []
last_parts {X} xs last found =
    let n = length xs - 1 in
    let within : n < length xs = slice_get_within xs n last found in
    sym (take_all (n + 1) xs (omega (arith, within)))
    ∙ take_more xs n last within
    ∙ ap (λ (x : X). take n xs ++ x ∷ []) (get_or_from_slice_get xs n last last found)

-- the last of the closed sections is that of the last place
record EndsWith (texts : List ℕ) (s : ClosedSect) (sects : List SectData) : Type 0 where
  before : List SectData
  last : SectData
  parts : sects ≡ before ++ last ∷ []
  is : last.test ≡ text_at texts s.test.begin s.test.bytes

ends_with : (texts : List ℕ) (items : List ItemData) (before : List ClosedSect) (s : ClosedSect) → EndsWith texts s (sects_of texts items (before ++ s ∷ []))
ends_with texts items [] s = record {
  before = [];
  last = record { test = text_at texts s.test.begin s.test.bytes; file = text_at texts s.file.begin s.file.bytes; items = take s.items items };
  parts = refl;
  is = refl;
}
ends_with texts items (b ∷ before) s =
    let rest = ends_with texts (drop b.items items) before s in
    let first : SectData = record { test = text_at texts b.test.begin b.test.bytes; file = text_at texts b.file.begin b.file.bytes; items = take b.items items } in
    record { before = first ∷ rest.before; last = rest.last; parts = ap (λ (sects : List SectData). first ∷ sects) rest.parts; is = rest.is }

pub last_closed : (texts : List ℕ) (items : List ItemData) (sects : List ClosedSect) (s : ClosedSect) (test : List ℕ) → slice_get sects (length sects - 1) ≡ Some s → test ≡ text_at texts s.test.begin s.test.bytes
    → IsLastTest (sects_of texts items sects) test
last_closed texts items sects s test found is =
    let parts = last_parts sects s found in
    let ends = ends_with texts items (take (length sects - 1) sects) s in
    record { before = ends.before; last = ends.last; parts = ap (sects_of texts items) parts ∙ ends.parts; is = ends.is ∙ sym is }

pub none_closed : (texts : List ℕ) (items : List ItemData) (sects : List ClosedSect) → length sects ≡ 0 → sects_of texts items sects ≡ []
none_closed texts items [] e = refl
none_closed texts items (s ∷ sects) e = absurd (omega (arith, e))

pub as_many_closed : (texts : List ℕ) (items : List ItemData) (sects : List ClosedSect) → length (sects_of texts items sects) ≡ length sects
as_many_closed texts items [] = refl
as_many_closed texts items (s ∷ sects) = ap suc (as_many_closed texts (drop s.items items) sects)

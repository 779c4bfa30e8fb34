-- What the end of a section makes of what a reader holds.
use Rattle.std.proofs.Common.{◌≡◌, ℕ, ◌+◌, List, [], ◌∷◌, ◌++◌, Option, Some, None, Ok, refl, sym, ap, subst, ◌∙◌}
use Rattle.std.specs.Prelude.{count_by}
use Rattle.covdata.specs.Row.{ItemData, SectData}
use Rattle.covdata.specs.Records.{End}
use Rattle.covread.specs.Reads.{items_of, is_odd}
use Rattle.covread.specs.TraceSteps.{SectionData, HeldData, closed, step_at, step}

-- two values of `HeldData` are equal if their fields are
pub same_held : (test test2 : List ℕ) (section section2 : Option SectionData) (sects sects2 : List SectData) (odd odd2 : ℕ)
    → test ≡ test2 → section ≡ section2 → sects ≡ sects2 → odd ≡ odd2
    → let x : HeldData = record { test = test; section = section; sects = sects; odd = odd } in
    let y : HeldData = record { test = test2; section = section2; sects = sects2; odd = odd2 } in
    x ≡ y
same_held test test2 section section2 sects sects2 odd odd2 a b c d =
    let e1 = ap (λ (v : List ℕ). let h : HeldData = record { test = v; section = section; sects = sects; odd = odd } in h) a in
    let e2 = ap (λ (v : Option SectionData). let h : HeldData = record { test = test2; section = v; sects = sects; odd = odd } in h) b in
    let e3 = ap (λ (v : List SectData). let h : HeldData = record { test = test2; section = section2; sects = v; odd = odd } in h) c in
    let e4 = ap (λ (v : ℕ). let h : HeldData = record { test = test2; section = section2; sects = sects2; odd = v } in h) d in
    e1 ∙ e2 ∙ e3 ∙ e4

-- at `end_of_record`, the step on plain data gives what the code holds, if the code settled the open section right
pub step_end : (before : HeldData) (s : SectionData) (section : Option SectionData) (test : List ℕ) (items : List ItemData) (sects : List SectData) (odd : ℕ)
    → before.section ≡ Some s → section ≡ None → test ≡ before.test → items ≡ items_of s.lines → odd ≡ count_by (is_odd s.lines) s.lines
    → sects ≡ before.sects ++ record { test = test; file = s.file; items = items } ∷ []
    → step before End ≡ Ok (record { test = before.test; section = section; sects = sects; odd = before.odd + odd })
step_end before s section test items sects odd open_is none test_is items_are odd_is sects_are =
    let test_same = ap (λ (x : List ℕ). before.sects ++ record { test = x; file = s.file; items = items } ∷ []) test_is in
    let items_same = ap (λ (x : List ItemData). before.sects ++ record { test = before.test; file = s.file; items = x } ∷ []) items_are in
    let after : HeldData = record { test = before.test; section = section; sects = sects; odd = before.odd + odd } in
    let same : after ≡ closed s before =
    same_held before.test before.test section None sects (closed s before).sects (before.odd + odd) (closed s before).odd
    refl none (sects_are ∙ test_same ∙ items_same) (ap (λ (n : ℕ). before.odd + n) odd_is) in
    subst (λ (x : Option SectionData). step_at x before End ≡ Ok after) (sym open_is) (ap (λ (x : HeldData). Ok x) (sym same))

use Rattle.std.proofs.Common.{◌≡◌, ◌∙◌, ◌==◌, IsTrue, ℕ, Bool, true, false, List, [], ◌∷◌, length, refl, sym, arith, eqb-true}
use Rattle.covcheck.proofs.format.is_skipped_lcov2.Goals.{then-has_common_key-via-then-has_common_key, then-has_common_key-via-else-has_common_key+then-is_empty, then-has_common_key-via-else-has_common_key+else-is_empty+then-is_of_lcov2_alone}
use Rattle.covcheck.proofs.format.is_skipped_lcov2.Goals as goal

not_both : (test : Bool) → test ≡ false → IsTrue test → ⊥
not_both test fails holds = cc

empty_line : (line : List ℕ) (test : Bool) → test ≡ (length line == 0) → test ≡ true → line ≡ []
empty_line [] test is holds = refl
empty_line (b ∷ bs) test is holds =
    let none : length (b ∷ bs) ≡ 0 = eqb-true (length (b ∷ bs)) 0 (sym is ∙ holds) in
    absurd (omega (arith, none))

full_line : (line : List ℕ) (test : Bool) → test ≡ (length line == 0) → test ≡ false → line ≡ [] → ⊥
full_line [] test is fails empty = cc
full_line (b ∷ bs) test is fails empty = cc

pub returns-then-has_common_key : goal.returns-then-has_common_key
returns-then-has_common_key c = (
  λ yes. absurd cc,
  λ skipped. elim c.then-has_common_key.branch [
    | then-has_common_key-via-then-has_common_key w ↦ absurd (skipped.1.form.0.0 (c.has_common_key.ensures w.if-has_common_key.true))
    | then-has_common_key-via-else-has_common_key+then-is_empty w ↦ absurd (skipped.0 (empty_line c.args.line.now w.is_empty.result w.is_empty.ensures w.if-is_empty.true))
    | then-has_common_key-via-else-has_common_key+else-is_empty+then-is_of_lcov2_alone w ↦ absurd (skipped.2 (w.is_of_lcov2_alone.ensures.0 w.if-is_of_lcov2_alone.true))
  ],
)

pub returns : goal.returns
returns c = (
  λ nothing. (
    full_line c.args.line.now c.is_empty.result c.is_empty.ensures c.if-is_empty.false,
    c.says_nothing_in_lcov2.ensures.0 nothing,
    λ alone. not_both c.is_of_lcov2_alone.result c.if-is_of_lcov2_alone.false (c.is_of_lcov2_alone.ensures.1 alone),
  ),
  λ skipped. c.says_nothing_in_lcov2.ensures.1 skipped.1,
)

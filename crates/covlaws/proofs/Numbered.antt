-- From the first expression of a block on, its branches get new numbers.
use Rattle.std.proofs.Common.{◌≡◌, inl, inr, ℕ, ◌<◌, ◌≤◌, ◌^◌, max, Bool, true, false, List, [], ◌∷◌, Option, Some, None, refl, sym, subst, arith}
use Rattle.std.specs.Prelude.{◌==◌, ◌&&◌, if◌then◌else◌}
use Rattle.std.specs.List.{AllByRecursion}
use Rattle.std.proofs.lemmas.Bool.{cases_lt}
use Rattle.covlcov2.specs.Reads.{branch_number, has_expression, next_number, number_from, one_more}
use Rattle.covlcov2.specs.Spells.{Lcov2Data, Edge}
use Rattle.covlcov2.proofs.Records.{number_fits}
use Rattle.covread.proofs.AllOf.{all_weaker}
use Rattle.covlaws.specs.Numbered.{numbers_in, IsNewAfter}

one_more_branch : (is_same : Bool) (number next : ℕ) (numbers : List ℕ) → AllByRecursion (λ (n : ℕ). one_more n ≤ next) numbers
    → AllByRecursion (λ (n : ℕ). one_more n ≤ (if is_same then max next (one_more number) else next)) (if is_same then number ∷ numbers else numbers)
one_more_branch true number next numbers all =
    (omega arith, all_weaker (λ (n : ℕ). one_more n ≤ next) (λ (n : ℕ). one_more n ≤ max next (one_more number)) (λ (n : ℕ) less. omega (arith, less)) numbers all)
one_more_branch false number next numbers all = all

-- the next number is above all numbers of the block, as far as it can be
all_before : (line block : ℕ) (above : List Lcov2Data) → AllByRecursion (λ (n : ℕ). one_more n ≤ next_number line block above) (numbers_in line block above)
all_before line block [] = tt
all_before line block (Edge is_excluded other that given taken ∷ above) =
    one_more_branch (other == line && that == block) (branch_number above line block given) (next_number line block above) (numbers_in line block above) (all_before line block above)
all_before line block (says ∷ above) = all_before line block above

new_after : (next number : ℕ) → next < 2 ^ 64 → one_more number ≤ next → IsNewAfter next number
new_after next number small more =
    elim (cases_lt number next) [
      | inl less ↦ inl less
      | inr less ↦ inr (omega (arith, small, more, less))
    ]

next_if_below : (next : ℕ) (given : Option ℕ) → number_from true next given ≡ next
next_if_below next None = refl
next_if_below next (Some number) = refl

next_of_expression : (is_below : Bool) (next : ℕ) → number_from is_below next None ≡ next
next_of_expression true next = refl
next_of_expression false next = refl

all_new : (line block : ℕ) (above : List Lcov2Data) → AllByRecursion (IsNewAfter (next_number line block above)) (numbers_in line block above)
all_new line block above =
    let next = next_number line block above in
    let small : next < 2 ^ 64 = subst (λ (n : ℕ). n < 2 ^ 64) (next_of_expression (has_expression line block above) next) (number_fits above line block None tt) in
    all_weaker (λ (n : ℕ). one_more n ≤ next) (IsNewAfter next) (λ (n : ℕ) more. new_after next n small more) (numbers_in line block above) (all_before line block above)

pub new_below : (line block : ℕ) (given : Option ℕ) (above : List Lcov2Data) → has_expression line block above ≡ true
    → AllByRecursion (IsNewAfter (branch_number above line block given)) (numbers_in line block above)
new_below line block given above below =
    let next = next_number line block above in
    let same : number_from true next given ≡ next = next_if_below next given in
    subst (λ (is_below : Bool). AllByRecursion (IsNewAfter (number_from is_below next given)) (numbers_in line block above)) (sym below)
    (subst (λ (n : ℕ). AllByRecursion (IsNewAfter n) (numbers_in line block above)) (sym same) (all_new line block above))

pub new_expression : (line block : ℕ) (above : List Lcov2Data) → AllByRecursion (IsNewAfter (branch_number above line block None)) (numbers_in line block above)
new_expression line block above =
    subst (λ (n : ℕ). AllByRecursion (IsNewAfter n) (numbers_in line block above)) (sym (next_of_expression (has_expression line block above) (next_number line block above))) (all_new line block above)

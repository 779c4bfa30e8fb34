-- What the places of each job bring, one job after another, is what all places bring, in another order.
use Rattle.std.proofs.Common.{◌≡◌, ◌∙◌, inl, inr, ℕ, zero, suc, ◌<◌, ◌≤◌, ◌%◌, Bool, true, false, if◌then◌else◌, List, [], ◌++◌, ap, sym, refl, subst, arith, append_assoc}
use Rattle.std.proofs.Math.Dec.{eqb}
use Rattle.std.proofs.lemmas.Bool.Decides.{eqb_tells}
use Rattle.std.proofs.lemmas.List.{append-nil}
use Rattle.std.proofs.lemmas.List.Sorted.{IsPermutation-refl, IsPermutation-trans, IsPermutation-append, IsPermutation-append_comm, IsPermutation-append_right, IsPermutation-append_left}
use Rattle.std.specs.List.Sorted.{IsPermutation}
use Rattle.covworkers.specs.Collect.{brought, all_places, places_of_job}

-- what the first jobs bring, one job after another
abbrev pub joined : {X : Type 0} → (ℕ → List X) → ℕ → List X
joined bring jobs = brought all_places bring jobs

crossed : {X : Type 0} (a b c d : List X) → IsPermutation ((a ++ b) ++ (c ++ d)) ((a ++ c) ++ (b ++ d))
crossed {X} a b c d =
    subst (λ (xs : List X). IsPermutation xs ((a ++ c) ++ (b ++ d))) (sym (append_assoc a b (c ++ d)))
    (subst (λ (xs : List X). IsPermutation (a ++ (b ++ (c ++ d))) xs) (sym (append_assoc a c (b ++ d)))
    (IsPermutation-append_right a (b ++ (c ++ d)) (c ++ (b ++ d))
    (subst (λ (xs : List X). IsPermutation xs (c ++ (b ++ d))) (append_assoc b c d)
    (subst (λ (xs : List X). IsPermutation ((b ++ c) ++ d) xs) (append_assoc c b d)
    (IsPermutation-append_left d (b ++ c) (c ++ b) (IsPermutation-append_comm b c))))))

joined_both : {X : Type 0} (some others : ℕ → List X) (jobs : ℕ) → IsPermutation (joined (λ job. some job ++ others job) jobs) (joined some jobs ++ joined others jobs)
joined_both some others zero = IsPermutation-refl []
joined_both some others (suc jobs) =
    IsPermutation-trans (joined (λ job. some job ++ others job) jobs ++ (some jobs ++ others jobs)) ((joined some jobs ++ joined others jobs) ++ (some jobs ++ others jobs)) ((joined some jobs ++ some jobs) ++ (joined others jobs ++ others jobs))
    (IsPermutation-append_left (some jobs ++ others jobs) (joined (λ job. some job ++ others job) jobs) (joined some jobs ++ joined others jobs) (joined_both some others jobs))
    (crossed (joined some jobs) (joined others jobs) (some jobs) (others jobs))

-- what a job brings if only the job `owner` brings anything
abbrev pub own_part : {X : Type 0} → ℕ → List X → ℕ → List X
own_part owner here job = if eqb owner job then here else []

none_below : {X : Type 0} (owner : ℕ) (here : List X) (jobs : ℕ) → jobs ≤ owner → joined (own_part owner here) jobs ≡ []
none_below owner here zero above = refl
none_below {X} owner here (suc jobs) above = elim (eqb_tells owner jobs) [
  | inl (yes_is, same) ↦ absurd (omega (arith, same, above))
  | inr (no_is, differs) ↦
      ap (λ (xs : List X). xs ++ own_part owner here jobs) (none_below owner here jobs (omega (arith, above)))
      ∙ ap (λ (b : Bool). if b then here else []) no_is
]

one_owner : {X : Type 0} (owner : ℕ) (here : List X) (jobs : ℕ) → owner < jobs → joined (own_part owner here) jobs ≡ here
one_owner owner here zero below = absurd (omega (arith, below))
one_owner {X} owner here (suc jobs) below = elim (eqb_tells owner jobs) [
  | inl (yes_is, same) ↦
      ap (λ (xs : List X). xs ++ own_part owner here jobs) (none_below owner here jobs (omega (arith, same)))
      ∙ ap (λ (b : Bool). if b then here else []) yes_is
  | inr (no_is, differs) ↦
      ap (λ (xs : List X). xs ++ own_part owner here jobs) (one_owner owner here jobs (omega (arith, below, differs)))
      ∙ ap (λ (b : Bool). here ++ (if b then here else [])) no_is ∙ append-nil here
]

joined_none : {X : Type 0} (jobs : ℕ) → joined {X = X} (λ job. []) jobs ≡ []
joined_none zero = refl
joined_none {X} (suc jobs) = ap (λ (xs : List X). xs ++ []) (joined_none jobs)

-- each place is one of exactly one job, so all jobs together bring what all places bring
pub all_together : {X : Type 0} (jobs : ℕ) (bring : ℕ → List X) (count : ℕ) → ((place : ℕ) → place % jobs < jobs)
    → IsPermutation (joined (λ job. brought (places_of_job jobs job) bring count) jobs) (brought all_places bring count)
all_together {X} jobs bring zero within = subst (λ (xs : List X). IsPermutation xs []) (sym (joined_none jobs)) (IsPermutation-refl [])
all_together {X} jobs bring (suc count) within =
    let before = λ (job : ℕ). brought (places_of_job jobs job) bring count in
    let here = own_part (count % jobs) (bring count) in
    IsPermutation-trans (joined (λ job. before job ++ here job) jobs) (joined before jobs ++ joined here jobs) (brought all_places bring count ++ bring count)
    (joined_both before here jobs)
    (IsPermutation-append (joined before jobs) (brought all_places bring count) (joined here jobs) (bring count) (all_together jobs bring count within)
    (subst (λ (xs : List X). IsPermutation (joined here jobs) xs) (one_owner (count % jobs) (bring count) jobs (within count)) (IsPermutation-refl (joined here jobs))))

-- ---- what the places that are meant bring depends only on these places

pub brought_own : {X : Type 0} (meant : ℕ → Bool) (bring brings : ℕ → List X) (count : ℕ) → ((index : ℕ) → index < count → meant index ≡ true → brings index ≡ bring index)
    → brought meant brings count ≡ brought meant bring count
brought_own meant bring brings zero same = refl
brought_own {X} meant bring brings (suc count) same = own_step meant bring brings count (meant count) refl same (brought_own meant bring brings count (λ index less own. same index (omega (arith, less)) own))
  where
    own_step : {X : Type 0} (meant : ℕ → Bool) (bring brings : ℕ → List X) (count : ℕ) (own : Bool) → meant count ≡ own → ((index : ℕ) → index < suc count → meant index ≡ true → brings index ≡ bring index)
        → brought meant brings count ≡ brought meant bring count → brought meant brings count ++ (if meant count then brings count else []) ≡ brought meant bring count ++ (if meant count then bring count else [])
    own_step {X} meant bring brings count true is same before =
        ap (λ (xs : List X). xs ++ (if meant count then brings count else [])) before
        ∙ ap (λ (xs : List X). brought meant bring count ++ (if meant count then xs else [])) (same count (omega arith) is)
    own_step {X} meant bring brings count false is same before =
        ap (λ (xs : List X). xs ++ (if meant count then brings count else [])) before
        ∙ ap (λ (b : Bool). brought meant bring count ++ (if b then brings count else [])) is
        ∙ sym (ap (λ (b : Bool). brought meant bring count ++ (if b then bring count else [])) is)

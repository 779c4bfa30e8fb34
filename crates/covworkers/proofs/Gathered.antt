-- All that the workers refused, and all that they submitted, follows from one function that gives the outcome of each input.
use Rattle.std.proofs.Common.{◌≡◌, ◌∙◌, ℕ, zero, suc, ◌+◌, ◌<◌, cond, List, [], ◌∷◌, ◌++◌, map, Option, None, Some, ap, sym, refl, subst, arith}
use Rattle.std.proofs.Math.Dec.{eqb}
use Rattle.std.proofs.lemmas.List.{append-nil, map-append}
use Rattle.std.proofs.lemmas.List.Concat.{flat_map-append}
use Rattle.std.proofs.lemmas.List.Elements.{All-from_recursion, recursion_from_All}
use Rattle.std.proofs.lemmas.List.Sorted.{IsPermutation-trans, IsPermutation-sym, All-permutation, sum_by-IsPermutation}
use Rattle.std.proofs.lemmas.List.Sums.{sum_by-cons}
use Rattle.std.proofs.lemmas.Nat.{mod_below}
use Rattle.std.specs.List.{AllByRecursion, range_with_len, flat_map, sum_by}
use Rattle.std.specs.List.Sorted.{IsPermutation, IsNonDecreasingBy}
use Rattle.covdata.specs.Row.{SubmissionData}
use Rattle.covworkers.specs.declared.refused.RefusedInput.{RefusedInput}
use Rattle.covworkers.specs.Collect.{submitted, refused_for, refusal, brought, all_places, places_of_job, submissions_of, refusals_of}
use Rattle.covworkers.specs.Work.{WorkerData, refused_in}
use Rattle.covworkers.proofs.Ascending.{Up, places_of, IsRefusal, same_if_as_often, one_refused, up_from_sorted, up_after}
use Rattle.covworkers.proofs.Places.{times}
use Rattle.covworkers.proofs.Taken.{Outcome}
use Rattle.covworkers.proofs.Together.{all_together}
use Rattle.covworkers.proofs.Whole.{FollowsOutcomes, AllFollowOutcomes}

-- a range with one more number is the shorter range followed by this number
range_after : (from count : ℕ) → range_with_len from (suc count) ≡ range_with_len from count ++ (from + count) ∷ []
range_after from zero = ap (λ (n : ℕ). n ∷ []) (none_more from)
  where
    none_more : (from : ℕ) → from ≡ from + 0
    none_more from = omega arith
range_after from (suc count) = ap (λ (ns : List ℕ). from ∷ ns) (range_after (from + 1) count ∙ ap (λ (n : ℕ). range_with_len (from + 1) count ++ n ∷ []) (one_more from count))
  where
    one_more : (from count : ℕ) → from + 1 + count ≡ from + suc count
    one_more from count = omega arith

-- all places below a bound bring what the numbers of the range from 0 bring
pub brought_by_range : {X : Type 0} (f : ℕ → List X) (count : ℕ) → flat_map f (range_with_len 0 count) ≡ brought all_places f count
brought_by_range f zero = refl
brought_by_range {X} f (suc count) =
    ap (λ (ns : List ℕ). flat_map f ns) (range_after 0 count ∙ ap (λ (n : ℕ). range_with_len 0 count ++ n ∷ []) (none_before count))
    ∙ flat_map-append f (range_with_len 0 count) (count ∷ [])
    ∙ ap (λ (xs : List X). xs ++ (f count ++ [])) (brought_by_range f count)
    ∙ ap (λ (xs : List X). brought all_places f count ++ xs) (append-nil (f count))
  where
    none_before : (count : ℕ) → 0 + count ≡ count
    none_before count = omega arith

-- what all workers refused is what the outcomes say for each job, one job after another
refused_by_jobs : {F : Type 0} (jobs count : ℕ) (outcome : ℕ → Outcome F) (workers : List (WorkerData F)) → AllByRecursion (FollowsOutcomes jobs count outcome) workers
    → refused_in workers ≡ flat_map (λ job. refusals_of (places_of_job jobs job) outcome count) (map (λ (w : WorkerData F). w.seat.job) workers)
refused_by_jobs jobs count outcome [] told = refl
refused_by_jobs {F} jobs count outcome (worker ∷ workers) told =
    ap (λ (rs : List (RefusedInput F)). rs ++ refused_in workers) told.0.are_refused
    ∙ ap (λ (rs : List (RefusedInput F)). refusals_of (places_of_job jobs worker.seat.job) outcome count ++ rs) (refused_by_jobs jobs count outcome workers told.1)

all_refused : {F : Type 0} (jobs count : ℕ) (outcome : ℕ → Outcome F) (workers : List (WorkerData F)) → 0 < jobs → AllFollowOutcomes jobs 0 jobs count outcome workers → IsPermutation (refused_in workers) (refusals_of all_places outcome count)
all_refused {F} jobs count outcome workers some told =
    let by_job : ℕ → List (RefusedInput F) = λ job. refusals_of (places_of_job jobs job) outcome count in
    subst (λ (rs : List (RefusedInput F)). IsPermutation rs (refusals_of all_places outcome count))
    (sym (refused_by_jobs jobs count outcome workers told.each ∙ ap (λ (js : List ℕ). flat_map by_job js) told.are ∙ brought_by_range by_job jobs))
    (all_together jobs (λ index. refusal index (outcome index)) count (λ place. mod_below place jobs some))

-- ---- the refused inputs in order

pub all_joined : {X : Type 0} (P : X → Type 0) (xs ys : List X) → AllByRecursion P xs → AllByRecursion P ys → AllByRecursion P (xs ++ ys)
all_joined P [] ys a b = b
all_joined P (x ∷ xs) ys a b = (a.0, all_joined P xs ys a.1 b)

refusal_is : {F : Type 0} (outcome : ℕ → Outcome F) (index : ℕ) (own : Option F) → (outcome index).fault ≡ own → AllByRecursion (IsRefusal outcome) (refused_for index own)
refusal_is outcome index None is = tt
refusal_is {F} outcome index (Some fault) is = (ap (λ (found : Option F). refused_for index found) is, tt)

refusals_are : {F : Type 0} (outcome : ℕ → Outcome F) (count : ℕ) → AllByRecursion (IsRefusal outcome) (refusals_of all_places outcome count)
refusals_are outcome zero = tt
refusals_are outcome (suc count) = all_joined (IsRefusal outcome) (refusals_of all_places outcome count) (refusal count (outcome count)) (refusals_are outcome count) (refusal_is outcome count (outcome count).fault refl)

all_higher : (xs : List ℕ) (n : ℕ) → AllByRecursion (λ (x : ℕ). x < n) xs → AllByRecursion (λ (x : ℕ). x < suc n) xs
all_higher [] n below = tt
all_higher (x ∷ xs) n below = (omega (arith, below.0), all_higher xs n below.1)

record Rising {F : Type 0} (count : ℕ) (inputs : List (RefusedInput F)) : Type 0 where
  up : Up (places_of inputs)
  below : AllByRecursion (λ (x : ℕ). x < count) (places_of inputs)

one_more_rises : {F : Type 0} (count : ℕ) (inputs : List (RefusedInput F)) (own : Option F) → Rising count inputs → Rising (suc count) (inputs ++ refused_for count own)
one_more_rises {F} count inputs None so_far =
    subst (λ (rs : List (RefusedInput F)). Rising (suc count) rs) (sym (append-nil inputs)) (record { up = so_far.up; below = all_higher (places_of inputs) count so_far.below })
one_more_rises {F} count inputs (Some fault) so_far =
    let r : RefusedInput F = record { index = count; fault = fault } in
    let is : places_of (inputs ++ r ∷ []) ≡ places_of inputs ++ count ∷ [] = map-append (λ (r : RefusedInput F). r.index) inputs (r ∷ []) in
    record {
      up = subst (λ (xs : List ℕ). Up xs) (sym is) (up_after (places_of inputs) count so_far.up so_far.below);
      below = subst (λ (xs : List ℕ). AllByRecursion (λ (x : ℕ). x < suc count) xs) (sym is)
          (all_joined (λ (x : ℕ). x < suc count) (places_of inputs) (count ∷ []) (all_higher (places_of inputs) count so_far.below) (omega arith, tt));
    }

refusals_rise : {F : Type 0} (outcome : ℕ → Outcome F) (count : ℕ) → Rising count (refusals_of all_places outcome count)
refusals_rise outcome zero = record { up = tt; below = tt }
refusals_rise outcome (suc count) = one_more_rises count (refusals_of all_places outcome count) (outcome count).fault (refusals_rise outcome count)

times_by_sum : {F : Type 0} (k : ℕ) (inputs : List (RefusedInput F)) → times k (places_of inputs) ≡ sum_by (λ (r : RefusedInput F). cond (eqb k r.index) 1 0) inputs
times_by_sum k [] = refl
times_by_sum {F} k (r ∷ inputs) =
    ap (λ (n : ℕ). cond (eqb k r.index) 1 0 + n) (times_by_sum k inputs) ∙ sym (sum_by-cons (λ (r : RefusedInput F). cond (eqb k r.index) 1 0) r inputs)

-- all that the workers refused, sorted by place, is what the outcomes of all inputs refuse
pub refused_is : {F : Type 0} (jobs count : ℕ) (outcome : ℕ → Outcome F) (workers : List (WorkerData F)) (refused : List (RefusedInput F)) → 0 < jobs → AllFollowOutcomes jobs 0 jobs count outcome workers
    → IsPermutation (refused_in workers) refused → IsNonDecreasingBy (λ (r : RefusedInput F). r.index) refused → refused ≡ refusals_of all_places outcome count
refused_is {F} jobs count outcome workers refused some told same sorted =
    let all = refusals_of all_places outcome count in
    let moved : IsPermutation all refused = IsPermutation-trans all (refused_in workers) refused (IsPermutation-sym (refused_in workers) all (all_refused jobs count outcome workers some told)) same in
    one_refused outcome refused all
    (recursion_from_All (IsRefusal outcome) refused (All-permutation (IsRefusal outcome) all refused moved (All-from_recursion (IsRefusal outcome) all (refusals_are outcome count))))
    (refusals_are outcome count)
    (same_if_as_often (places_of refused) (places_of all) (up_from_sorted refused sorted) (refusals_rise outcome count).up
    (λ k. times_by_sum k refused ∙ sum_by-IsPermutation (λ (r : RefusedInput F). cond (eqb k r.index) 1 0) all refused moved ∙ sym (times_by_sum k all)))

-- the submissions of all jobs, one job after another, are those of all inputs in another order
pub all_submitted : {F : Type 0} (jobs count : ℕ) (outcome : ℕ → Outcome F) → 0 < jobs
    → IsPermutation (flat_map (λ job. submissions_of (places_of_job jobs job) outcome count) (range_with_len 0 jobs)) (submissions_of all_places outcome count)
all_submitted jobs count outcome some =
    let by_job : ℕ → List SubmissionData = λ job. submissions_of (places_of_job jobs job) outcome count in
    subst (λ (ss : List SubmissionData). IsPermutation ss (submissions_of all_places outcome count)) (sym (brought_by_range by_job jobs))
    (all_together jobs (λ index. submitted (outcome index)) count (λ place. mod_below place jobs some))

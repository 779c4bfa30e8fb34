-- All that the workers have done follows from one function that gives the outcome of each input.
use Rattle.std.proofs.Common.{◌≡◌, ◌∙◌, inl, inr, ℕ, zero, suc, ◌+◌, ◌<◌, ◌%◌, Bool, true, IsTrue, List, [], ◌∷◌, length, map, slice_get, ap, sym, refl, subst, arith}
use Rattle.std.specs.Prelude.{IsSomeAnd}
use Rattle.std.specs.List.{AllByRecursion, range_with_len}
use Rattle.std.proofs.Math.Dec.{eqb}
use Rattle.std.proofs.lemmas.Bool.{eq-eqb, false≢true}
use Rattle.std.proofs.lemmas.Bool.Decides.{eqb_tells}
use Rattle.std.proofs.lemmas.Nat.{mod_below}
use Rattle.covdata.specs.Row.{SubmissionData}
use Rattle.covbook.specs.Op.{SubmitOp}
use Rattle.covworkers.specs.Collect.{AreOutcomes, HasRead, submitted, refusal, places_of_job, submissions_of, refusals_of, ops_in}
use Rattle.covlock.specs.Seat.{fresh_seat}
use Rattle.covworkers.specs.declared.readers.Readers.{Readers}
use Rattle.covworkers.specs.Work.{Chances, WorkerData, WorkData, HasDone, HaveDone, work_of}
use Rattle.covworkers.proofs.Taken.{Outcome, nothing}
use Rattle.covworkers.proofs.Together.{brought_own}

-- the work of `count` jobs, from the job `from` on
abbrev pub works_from : {X : Type 0} → List X → (jobs : ℕ) → Readers → (from count : ℕ) → List (WorkData X)
works_from inputs jobs readers from count = map (work_of inputs jobs readers) (map fresh_seat (range_with_len from count))

-- the outcomes of the inputs by the k-th worker's own account, which is right for the inputs of its job
abbrev outcomes_at : {X F : Type 0} (chances : Chances X F) (works : List (WorkData X)) (workers : List (WorkerData F)) → HaveDone chances works workers → ℕ → ℕ → Outcome F
outcomes_at chances [] [] done k = λ index. nothing
outcomes_at chances [] (worker ∷ workers) done k = absurd done
outcomes_at chances (work ∷ works) [] done k = absurd done
outcomes_at chances (work ∷ works) (worker ∷ workers) done zero = done.0.taken.outcome
outcomes_at chances (work ∷ works) (worker ∷ workers) done (suc k) = outcomes_at chances works workers done.1 k

-- a worker has submitted and refused what the outcomes say for its job's inputs. If it has a reader, it has read after each
-- submit
pub record FollowsOutcomes {F : Type 0} (jobs count : ℕ) (outcome : ℕ → Outcome F) (worker : WorkerData F) : Type 0 where
  pub asked : ops_in worker.receipts ≡ map SubmitOp (submissions_of (places_of_job jobs worker.seat.job) outcome count)
  pub are_refused : worker.refused ≡ refusals_of (places_of_job jobs worker.seat.job) outcome count
  pub read : HasRead worker.has_reader worker.receipts worker.readings

told : {X F : Type 0} (chances : Chances X F) (readers : Readers) (inputs : List X) (jobs job : ℕ) (worker : WorkerData F) (done : HasDone chances (record { inputs = inputs; jobs = jobs; job = job; readers = readers }) worker) (whole : ℕ → Outcome F)
    → ((index : ℕ) → index % jobs ≡ job → whole index ≡ done.taken.outcome index) → FollowsOutcomes jobs (length inputs) whole worker
told {X} {F} chances readers inputs jobs job worker done whole same =
    let own = done.taken.outcome in
    let agree : (index : ℕ) → index < length inputs → places_of_job jobs job index ≡ true → whole index ≡ own index = λ index less meant. same index (is_own jobs job index meant) in
    record {
      asked =
          (subst (λ (j : ℕ). ops_in worker.receipts ≡ map SubmitOp (submissions_of (places_of_job jobs j) whole (length inputs))) (sym done.own)
          (done.taken.asked ∙ sym (ap (λ (subs : List SubmissionData). map SubmitOp subs) (brought_own (places_of_job jobs job) (λ index. submitted (own index)) (λ index. submitted (whole index)) (length inputs) (λ index less meant. ap (λ (f : Outcome F). submitted f) (agree index less meant))))));
      are_refused =
          (subst (λ (j : ℕ). worker.refused ≡ refusals_of (places_of_job jobs j) whole (length inputs)) (sym done.own)
          (done.taken.are_refused ∙ sym (brought_own (places_of_job jobs job) (λ index. refusal index (own index)) (λ index. refusal index (whole index)) (length inputs) (λ index less meant. ap (λ (f : Outcome F). refusal index f) (agree index less meant)))));
      read = done.read;
    }
  where
    is_own : (jobs job index : ℕ) → eqb (index % jobs) job ≡ true → index % jobs ≡ job
    is_own jobs job index meant = elim (eqb_tells (index % jobs) job) [
      | inl (yes_is, same) ↦ same
      | inr (no_is, differs) ↦ absurd (false≢true (sym no_is ∙ meant))
    ]

-- this holds of each worker, and the workers are those of `some` jobs from the job `from` on, in order
pub record AllFollowOutcomes {F : Type 0} (jobs from some count : ℕ) (outcome : ℕ → Outcome F) (workers : List (WorkerData F)) : Type 0 where
  pub are : map (λ (w : WorkerData F). w.seat.job) workers ≡ range_with_len from some
  pub each : AllByRecursion (FollowsOutcomes jobs count outcome) workers

have_told : {X F : Type 0} (chances : Chances X F) (readers : Readers) (inputs : List X) (jobs from some : ℕ) (workers : List (WorkerData F)) (done : HaveDone chances (works_from inputs jobs readers from some) workers) (whole : ℕ → Outcome F)
    → ((k index : ℕ) → index % jobs ≡ from + k → whole index ≡ outcomes_at chances (works_from inputs jobs readers from some) workers done k index) → AllFollowOutcomes jobs from some (length inputs) whole workers
have_told chances readers inputs jobs from zero [] done whole same = record { are = refl; each = tt }
have_told chances readers inputs jobs from zero (worker ∷ workers) done whole same = absurd done
have_told chances readers inputs jobs from (suc some) [] done whole same = absurd done
have_told {X} {F} chances readers inputs jobs from (suc some) (worker ∷ workers) done whole same =
    let rest = have_told chances readers inputs jobs (from + 1) some workers done.1 whole (λ k index is. same (suc k) index (is ∙ one_more from k)) in
    record {
      are = ap (λ (job : ℕ). job ∷ map (λ (w : WorkerData F). w.seat.job) workers) done.0.own ∙ ap (λ (jobs : List ℕ). from ∷ jobs) rest.are;
      each = (told chances readers inputs jobs from worker done.0 whole (λ index is. same 0 index (is ∙ none_more from)), rest.each);
    }
  where
    one_more : (from k : ℕ) → from + 1 + k ≡ from + suc k
    one_more from k = omega arith

    none_more : (from : ℕ) → from ≡ from + 0
    none_more from = omega arith

holds_at : {X F : Type 0} (chances : Chances X F) (readers : Readers) (inputs : List X) (jobs from some : ℕ) (workers : List (WorkerData F)) (done : HaveDone chances (works_from inputs jobs readers from some) workers) (k index : ℕ)
    → k < some → index < length inputs → index % jobs ≡ from + k → IsSomeAnd (slice_get inputs index) (λ input. chances.Gives input (outcomes_at chances (works_from inputs jobs readers from some) workers done k index))
holds_at chances readers inputs jobs from zero workers done k index below less is = absurd (omega (arith, below))
holds_at chances readers inputs jobs from (suc some) [] done k index below less is = absurd done
holds_at chances readers inputs jobs from (suc some) (worker ∷ workers) done zero index below less is = done.0.taken.outcomes index less (true_is (eq-eqb (index % jobs) from (is ∙ none_more from)))
  where
    none_more : (from : ℕ) → from + 0 ≡ from
    none_more from = omega arith

    true_is : {b : Bool} → b ≡ true → IsTrue b
    true_is e = e
holds_at chances readers inputs jobs from (suc some) (worker ∷ workers) done (suc k) index below less is = holds_at chances readers inputs jobs (from + 1) some workers done.1 k index (omega (arith, below)) less (is ∙ one_more from k)
  where
    one_more : (from k : ℕ) → from + suc k ≡ from + 1 + k
    one_more from k = omega arith

-- one function gives the outcomes of all inputs, and all that the workers have done follows from it
pub record IsWhole {X F : Type 0} (chances : Chances X F) (inputs : List X) (jobs : ℕ) (workers : List (WorkerData F)) : Type 0 where
  pub outcome : ℕ → Outcome F
  pub outcomes : AreOutcomes chances.Gives inputs outcome
  pub tell : AllFollowOutcomes jobs 0 jobs (length inputs) outcome workers

pub whole_of : {X F : Type 0} (chances : Chances X F) (readers : Readers) (inputs : List X) (jobs : ℕ) (workers : List (WorkerData F)) → 0 < jobs → HaveDone chances (works_from inputs jobs readers 0 jobs) workers → IsWhole chances inputs jobs workers
whole_of {X} {F} chances readers inputs jobs workers some done =
    let at = outcomes_at chances (works_from inputs jobs readers 0 jobs) workers done in
    let whole : ℕ → Outcome F = λ index. at (index % jobs) index in
    record {
      outcome = whole;
      outcomes = λ index less. holds_at chances readers inputs jobs 0 jobs workers done (index % jobs) index (mod_below index jobs some) less (sym (none_before (index % jobs)));
      tell = have_told chances readers inputs jobs 0 jobs workers done whole (λ k index is. ap (λ (j : ℕ). at j index) (is ∙ none_before k));
    }
  where
    none_before : (k : ℕ) → 0 + k ≡ k
    none_before k = omega arith

-- If all workers have done their work, each job's seat is among those that they hand in. If there is a job, there is a worker.
use Rattle.std.proofs.Common.{◌≡◌, ◌∙◌, inl, inr, ℕ, zero, suc, ◌+◌, ◌<◌, ◌≤◌, ◌||◌, true, List, [], ◌∷◌, length, ap, sym, arith}
use Rattle.std.proofs.Math.Dec.{eqb}
use Rattle.std.proofs.lemmas.Bool.{cases_lt, eq-eqb, false≢true, or_left, or_right}
use Rattle.std.proofs.lemmas.Bool.Decides.{eqb_tells}
use Rattle.covlock.specs.Handed.{is_seated, IsLeastMissing}
use Rattle.covbook.specs.Op.{OpData}
use Rattle.covworkers.specs.declared.readers.Readers.{Readers}
use Rattle.covworkers.specs.Work.{Chances, WorkerData, HaveDone, FirstAsks, seats_in}
use Rattle.covworkers.proofs.Whole.{works_from}

-- if there are workers of `some` jobs from the job `from` on, each of these jobs has a seat among theirs
seated_from : {X F : Type 0} (chances : Chances X F) (readers : Readers) (inputs : List X) (jobs from some : ℕ) (workers : List (WorkerData F)) → HaveDone chances (works_from inputs jobs readers from some) workers
    → (job : ℕ) → from ≤ job → job < from + some → is_seated (seats_in workers) job ≡ true
seated_from chances readers inputs jobs from zero workers done job least less = absurd (omega (arith, least, less))
seated_from chances readers inputs jobs from (suc some) [] done job least less = absurd done
seated_from chances readers inputs jobs from (suc some) (worker ∷ workers) done job least less = elim (eqb_tells job from) [
  | inl (yes_is, same) ↦ or_left (eqb job worker.seat.job) (is_seated (seats_in workers) job) (eq-eqb job worker.seat.job (same ∙ sym done.0.own))
  | inr (no_is, differs) ↦ or_right (eqb job worker.seat.job) (is_seated (seats_in workers) job)
      (seated_from chances readers inputs jobs (from + 1) some workers done.1 job (above job from least differs) (omega (arith, less)))
]
  where
    above : (job from : ℕ) → from ≤ job → (job ≡ from → ⊥) → from + 1 ≤ job
    above job from least differs = elim (cases_lt from job) [
      | inl less ↦ omega (arith, less)
      | inr more ↦ absurd (differs (omega (arith, least, more)))
    ]

-- the last operation changes no worker's job, so the same jobs have seats before and after it
same_seated : {F : Type 0} (workers after : List (WorkerData F)) (end : ℕ) (last : OpData) → FirstAsks workers after end last → (job : ℕ) → is_seated (seats_in workers) job ≡ is_seated (seats_in after) job
same_seated {F} workers after end last asks job =
    ap (λ (ws : List (WorkerData F)). is_seated (seats_in ws) job) asks.old
    ∙ ap (λ (j : ℕ). eqb job j || is_seated (seats_in asks.others) job) (sym asks.job)
    ∙ sym (ap (λ (ws : List (WorkerData F)). is_seated (seats_in ws) job) asks.new)

-- so no job's seat is missing after the last operation
pub none_missing : {X F : Type 0} (chances : Chances X F) (readers : Readers) (inputs : List X) (jobs end : ℕ) (last : OpData) (workers after : List (WorkerData F)) → HaveDone chances (works_from inputs jobs readers 0 jobs) workers
    → FirstAsks workers after end last → (job : ℕ) → IsLeastMissing jobs (seats_in after) job → ⊥
none_missing chances readers inputs jobs end last workers after done asks job missing =
    false≢true (sym missing.missing ∙ sym (same_seated workers after end last asks job) ∙ seated_from chances readers inputs jobs 0 jobs workers done job (omega arith) (omega (arith, missing.is_job)))

-- no job's seat is missing right after the work either
pub none_missing_yet : {X F : Type 0} (chances : Chances X F) (readers : Readers) (inputs : List X) (jobs : ℕ) (workers : List (WorkerData F)) → HaveDone chances (works_from inputs jobs readers 0 jobs) workers
    → (job : ℕ) → IsLeastMissing jobs (seats_in workers) job → ⊥
none_missing_yet chances readers inputs jobs workers done job missing =
    false≢true (sym missing.missing ∙ seated_from chances readers inputs jobs 0 jobs workers done job (omega arith) (omega (arith, missing.is_job)))

-- if there is a job, there is a worker
pub some_worker : {X F : Type 0} (chances : Chances X F) (readers : Readers) (inputs : List X) (jobs : ℕ) (workers : List (WorkerData F)) → 0 < jobs → HaveDone chances (works_from inputs jobs readers 0 jobs) workers → 0 < length workers
some_worker chances readers inputs zero workers some done = absurd (omega (arith, some))
some_worker chances readers inputs (suc more) [] some done = absurd done
some_worker chances readers inputs (suc more) (worker ∷ workers) some done = omega arith

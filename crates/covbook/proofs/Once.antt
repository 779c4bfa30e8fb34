-- Receipts in logs of different jobs have different places.
use Rattle.std.proofs.Common.{◌≡◌, ℕ, ◌≤◌, List, [], ◌∷◌, Option, Some, None, map, sym, ◌∙◌, inl, inr, subst, arith}
use Rattle.std.specs.Prelude.{◌≢◌, slice_get, IsSomeAnd}
use Rattle.std.specs.List.{AllByRecursion}
use Rattle.std.proofs.lemmas.Bool.{cases_order}
use Rattle.covbook.specs.Op.{EntryData, ReceiptData}
use Rattle.covbook.specs.Gather.{LogData, jobs_of, places_of, places_in, Rise, Differ, IsOfJob, IsLogOf}
use Rattle.covbook.specs.GatherSteps.{AreApart, times}
use Rattle.covbook.proofs.PlaceCounts.{In, In-parts, all_weaker, rise_once, times_append, times_in}

-- at the place of a log's receipt there is an entry of the log's job
owned : (entries : List EntryData) (job : ℕ) (receipts : List ReceiptData) (place : ℕ) → AllByRecursion (IsOfJob entries job) receipts → In place (map (λ (r : ReceiptData). r.place) receipts)
    → IsSomeAnd (slice_get entries place) (λ (e : EntryData). e.job ≡ job)
owned entries job [] place own h = absurd h
owned entries job (r ∷ receipts) place own (inl e) = subst (λ (p : ℕ). IsSomeAnd (slice_get entries p) (λ (e : EntryData). e.job ≡ job)) e own.0
owned entries job (r ∷ receipts) place own (inr h) = owned entries job receipts place own.1 h

one_job : (o : Option EntryData) (job other : ℕ) → IsSomeAnd o (λ (e : EntryData). e.job ≡ job) → IsSomeAnd o (λ (e : EntryData). e.job ≡ other) → job ≡ other
one_job None job other a b = absurd a
one_job (Some e) job other a b = sym a ∙ b

-- if there is an entry of a job at a place, no log of another job has this place
not_others : (entries : List EntryData) (job place : ℕ) (logs : List LogData) → IsSomeAnd (slice_get entries place) (λ (e : EntryData). e.job ≡ job)
    → AllByRecursion (λ (other : ℕ). job ≢ other) (jobs_of logs) → AllByRecursion (IsLogOf entries) logs → In place (places_in logs) → ⊥
not_others entries job place [] at differ of h = h
not_others entries job place (log ∷ logs) at differ of h = elim (In-parts (places_of log) (places_in logs) place h) [
  | inl here ↦ differ.0 (one_job (slice_get entries place) job log.job at (owned entries log.job log.receipts place of.0.own here))
  | inr there ↦ not_others entries job place logs at differ.1 of.1 there
]

pub told_once : (entries : List EntryData) (logs : List LogData) → Differ (jobs_of logs) → AllByRecursion (IsLogOf entries) logs → (place : ℕ) → times place (places_in logs) ≤ 1
told_once entries [] differ of place = omega arith
told_once entries (log ∷ logs) differ of place =
    let parts = times_append place (places_of log) (places_in logs) in
    let here = rise_once (places_of log) of.0.rise place in
    let there = told_once entries logs differ.1 of.1 place in
    elim (cases_order 0 (times place (places_of log))) [
      | inl none ↦ omega (arith, parts, none, there)
      | inr some ↦ elim some [
        | inr wrong ↦ absurd (omega (arith, wrong))
        | inl one ↦
            let at = owned entries log.job log.receipts place of.0.own (times_in (places_of log) place (omega (arith, one))) in
            elim (cases_order 0 (times place (places_in logs))) [
              | inl none ↦ omega (arith, parts, none, here)
              | inr more ↦ elim more [
                | inr wrong ↦ absurd (omega (arith, wrong))
                | inl two ↦ absurd (not_others entries log.job place logs at differ.0 of.1 (times_in (places_in logs) place (omega (arith, two))))
              ]
            ]
      ]
    ]

pub apart : (entries : List EntryData) (logs : List LogData) → Differ (jobs_of logs) → AllByRecursion (IsLogOf entries) logs → AreApart logs
apart entries logs differ of = record {
  rise = all_weaker (IsLogOf entries) (λ (log : LogData). Rise (places_of log)) (λ (log : LogData) (is : IsLogOf entries log). is.rise) logs of;
  once = told_once entries logs differ of;
}

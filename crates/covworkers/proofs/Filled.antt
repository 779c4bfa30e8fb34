-- The history was filled: all inputs were read, as at least as many submissions as a full history has entries.
use Rattle.std.proofs.Common.{◌≡◌, ◌∙◌, ℕ, zero, suc, ◌+◌, ◌<◌, ◌≤◌, false, List, [], ◌∷◌, length, map, Ok, Err, slice_get, ap, sym, refl, subst, arith}
use Rattle.std.specs.Prelude.{IsSomeAnd}
use Rattle.std.specs.List.{AllByRecursion, flat_map, range_with_len, sum_by}
use Rattle.std.proofs.lemmas.List.{length-map}
use Rattle.std.proofs.lemmas.List.Concat.{length-flat_map}
use Rattle.std.proofs.lemmas.List.Sorted.{length_permutation}
use Rattle.std.proofs.lemmas.List.Sums.{sum_by-cons}
use Rattle.covdata.specs.Row.{SubmissionData}
use Rattle.covbook.specs.Op.{EntryData, OpData, SubmitOp, ReceiptData}
use Rattle.covbook.specs.Step.{max_entries}
use Rattle.covlock.specs.Seat.{SeatData, calls_in, fresh_seat}
use Rattle.covworkers.specs.declared.readers.Readers.{Readers}
use Rattle.covworkers.specs.declared.readers.Readers.TheVariants as readers
use Rattle.covworkers.specs.declared.stop.Stop.TheVariants as stops
use Rattle.covworkers.specs.Collect.{all_places, places_of_job, submissions_of}
use Rattle.covworkers.specs.Late.{FillHistory, chances_of}
use Rattle.covworkers.specs.Work.{Chances, HasDone, HasEnded, HasReceipts, HaveDone, HaveEnded, IsFrom, IsStarted, MayHaveReader, WorkerData, parts_of_end, seats_in}
use Rattle.covworkers.proofs.Ended.{End}
use Rattle.covworkers.proofs.Gathered.{all_submitted}
use Rattle.covworkers.proofs.Taken.{Outcome}
use Rattle.covworkers.proofs.Whole.{FollowsOutcomes, whole_of, works_from}

-- ---- workers that have done their work

-- as many submissions as receipts
as_many : {F : Type 0} (jobs count : ℕ) (outcome : ℕ → Outcome F) (worker : WorkerData F) → FollowsOutcomes jobs count outcome worker
    → length worker.receipts ≡ length (submissions_of (places_of_job jobs worker.seat.job) outcome count)
as_many jobs count outcome worker follows =
    sym (length-map worker.receipts (λ (r : ReceiptData). r.op)) ∙ ap (λ (ops : List OpData). length ops) follows.asked ∙ length-map (submissions_of (places_of_job jobs worker.seat.job) outcome count) SubmitOp

all_as_many : {F : Type 0} (jobs count : ℕ) (outcome : ℕ → Outcome F) (workers : List (WorkerData F)) → AllByRecursion (FollowsOutcomes jobs count outcome) workers
    → sum_by (λ (w : WorkerData F). length w.receipts) workers ≡ sum_by (λ (job : ℕ). length (submissions_of (places_of_job jobs job) outcome count)) (map (λ (w : WorkerData F). w.seat.job) workers)
all_as_many jobs count outcome [] all = refl
all_as_many {F} jobs count outcome (worker ∷ workers) all =
    let by_job : ℕ → ℕ = λ (job : ℕ). length (submissions_of (places_of_job jobs job) outcome count) in
    sum_by-cons (λ (w : WorkerData F). length w.receipts) worker workers
    ∙ ap (λ (n : ℕ). n + sum_by (λ (w : WorkerData F). length w.receipts) workers) (as_many jobs count outcome worker all.0)
    ∙ ap (λ (n : ℕ). by_job worker.seat.job + n) (all_as_many jobs count outcome workers all.1)
    ∙ sym (sum_by-cons by_job worker.seat.job (map (λ (w : WorkerData F). w.seat.job) workers))

-- workers that have done their work, with so many receipts together
pub filled_by : {X F : Type 0} (MayGive : X → Outcome F → Type 0) (MayFail : X → Type 0) (readers : Readers) (inputs : List X) (jobs : ℕ) (workers : List (WorkerData F)) → 0 < jobs
    → HaveDone (chances_of MayGive MayFail) (works_from inputs jobs readers 0 jobs) workers → max_entries ≤ sum_by (λ (w : WorkerData F). length w.receipts) workers → FillHistory MayGive inputs
filled_by {X} {F} MayGive MayFail readers inputs jobs workers some done many =
    let whole = whole_of (chances_of MayGive MayFail) readers inputs jobs workers some done in
    let count = length inputs in
    let by_job : ℕ → List SubmissionData = λ (job : ℕ). submissions_of (places_of_job jobs job) whole.outcome count in
    let same : sum_by (λ (w : WorkerData F). length w.receipts) workers ≡ length (submissions_of all_places whole.outcome count) =
    all_as_many jobs count whole.outcome workers whole.tell.each
    ∙ ap (λ (js : List ℕ). sum_by (λ (job : ℕ). length (by_job job)) js) whole.tell.are
    ∙ sym (length-flat_map by_job (range_with_len 0 jobs))
    ∙ sym (length_permutation (flat_map by_job (range_with_len 0 jobs)) (submissions_of all_places whole.outcome count) (all_submitted jobs count whole.outcome some)) in
    (whole.outcome, whole.outcomes, subst (λ (n : ℕ). max_entries ≤ n) same many)

-- the closed book is full, and the workers have a receipt for each of their calls
pub filled_if_closed : {X F : Type 0} (MayGive : X → Outcome F → Type 0) (MayFail : X → Type 0) (readers : Readers) (inputs : List X) (jobs : ℕ) (workers : List (WorkerData F)) (entries : List EntryData) → 0 < jobs
    → HaveDone (chances_of MayGive MayFail) (works_from inputs jobs readers 0 jobs) workers → AllByRecursion (λ (w : WorkerData F). HasReceipts w) workers → length entries ≡ calls_in (seats_in workers)
    → length entries ≡ max_entries → FillHistory MayGive inputs
filled_if_closed {X} {F} MayGive MayFail readers inputs jobs workers entries some done kept calls full =
    filled_by MayGive MayFail readers inputs jobs workers some done (omega (arith, full, calls, called workers kept))
  where
    called : {F : Type 0} (workers : List (WorkerData F)) → AllByRecursion (λ (w : WorkerData F). HasReceipts w) workers → calls_in (seats_in workers) ≡ sum_by (λ (w : WorkerData F). length w.receipts) workers
    called [] all = refl
    called {F} (worker ∷ workers) all =
        sum_by-cons (λ (s : SeatData). s.calls) worker.seat (seats_in workers)
        ∙ ap (λ (n : ℕ). n + calls_in (seats_in workers)) (sym all.0.counted)
        ∙ ap (λ (n : ℕ). length worker.receipts + n) (called workers all.1)
        ∙ sym (sum_by-cons (λ (w : WorkerData F). length w.receipts) worker workers)

-- ---- workers that were refused something

-- a place that has an input isn't behind all inputs
not_there : {X : Type 0} (P : X → Type 0) (inputs : List X) (index : ℕ) → IsSomeAnd (slice_get inputs index) P → length inputs ≤ index → ⊥
not_there P [] index is behind = absurd is
not_there P (input ∷ inputs) zero is behind = omega (arith, behind)
not_there P (input ∷ inputs) (suc index) is behind = not_there P inputs index is (omega (arith, behind))

no_reader : (readers : Readers) → MayHaveReader readers false
no_reader readers.ForEachJob = tt
no_reader readers.None = refl

-- a worker that ended behind all inputs would have done its work
would_have_done : {X F : Type 0} (chances : Chances X F) (readers : Readers) (inputs : List X) (jobs job upto : ℕ) (end : End F) → length inputs ≤ upto
    → HasEnded chances (record { inputs = inputs; jobs = jobs; job = job; readers = readers }) end → IsFrom upto end
    → (worker : WorkerData F) × HasDone chances (record { inputs = inputs; jobs = jobs; job = job; readers = readers }) worker × (parts_of_end end ≤ length worker.receipts)
would_have_done chances readers inputs jobs job upto (Ok worker) behind ended from = (worker, ended, omega arith)
would_have_done chances readers inputs jobs job upto (Err (stops.Unread index)) behind ended from = absurd (not_there chances.MayFail inputs index ended.fails (omega (arith, behind, from)))
would_have_done {X} {F} chances readers inputs jobs job upto (Err (stops.Refused refusal)) behind ended from =
    let all = ended.2 (omega (arith, behind, from)) in
    let worker : WorkerData F = record { seat = fresh_seat job; receipts = all.0; has_reader = false; readings = []; refused = all.1 } in
    (worker, record { own = refl; taken = all.2; read = refl; reader = no_reader readers }, all.3)

all_would : {X F : Type 0} (chances : Chances X F) (readers : Readers) (inputs : List X) (jobs from some upto : ℕ) (ended : List (End F)) → length inputs ≤ upto
    → HaveEnded chances (works_from inputs jobs readers from some) ended → AllByRecursion (IsFrom upto) ended
    → (workers : List (WorkerData F)) × HaveDone chances (works_from inputs jobs readers from some) workers × (sum_by parts_of_end ended ≤ sum_by (λ (w : WorkerData F). length w.receipts) workers)
all_would chances readers inputs jobs from zero upto [] behind done all = ([], tt, omega arith)
all_would chances readers inputs jobs from zero upto (end ∷ ended) behind done all = absurd done
all_would chances readers inputs jobs from (suc some) upto [] behind done all = absurd done
all_would {X} {F} chances readers inputs jobs from (suc some) upto (end ∷ ended) behind done all =
    let first = would_have_done chances readers inputs jobs from upto end behind done.0 all.0 in
    let others = all_would chances readers inputs jobs (from + 1) some upto ended behind done.1 all.1 in
    let here : sum_by parts_of_end (end ∷ ended) ≡ parts_of_end end + sum_by parts_of_end ended = sum_by-cons parts_of_end end ended in
    let there : sum_by (λ (w : WorkerData F). length w.receipts) (first.0 ∷ others.0) ≡ length first.0.receipts + sum_by (λ (w : WorkerData F). length w.receipts) others.0 =
    sum_by-cons (λ (w : WorkerData F). length w.receipts) first.0 others.0 in
    (first.0 ∷ others.0, (first.1, others.1), omega (arith, here, there, first.2, others.2))

started : {F : Type 0} (upto : ℕ) → 0 < upto → (end : End F) → IsFrom upto end → IsStarted end
started upto some (Ok worker) from = tt
started upto some (Err (stops.Unread index)) from = tt
started upto some (Err (stops.Refused refusal)) from = omega (arith, some, from)

all_started : {F : Type 0} (upto : ℕ) → 0 < upto → (ended : List (End F)) → AllByRecursion (IsFrom upto) ended → AllByRecursion IsStarted ended
all_started upto some [] all = tt
all_started upto some (end ∷ ended) all = (started upto some end all.0, all_started upto some ended all.1)

-- all workers ended behind all inputs, with so many parts
pub filled_though_refused : {X F : Type 0} (MayGive : X → Outcome F → Type 0) (MayFail : X → Type 0) (readers : Readers) (inputs : List X) (jobs upto : ℕ) (ended : List (End F)) → 0 < jobs → 0 < upto → length inputs ≤ upto
    → (AllByRecursion IsStarted ended → HaveEnded (chances_of MayGive MayFail) (works_from inputs jobs readers 0 jobs) ended) → AllByRecursion (IsFrom upto) ended → max_entries ≤ sum_by parts_of_end ended
    → FillHistory MayGive inputs
filled_though_refused MayGive MayFail readers inputs jobs upto ended some begun behind if_started from many =
    let would = all_would (chances_of MayGive MayFail) readers inputs jobs 0 jobs upto ended behind (if_started (all_started upto begun ended from)) from in
    filled_by MayGive MayFail readers inputs jobs would.0 some would.1 (omega (arith, many, would.2))

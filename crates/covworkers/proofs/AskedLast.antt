-- The logs of all jobs after job 0 has asked the last operation: they have what each job asks, and what it read.
use Rattle.std.proofs.Common.{◌≡◌, ◌∙◌, ℕ, zero, suc, ◌+◌, ◌<◌, Bool, if◌then◌else◌, List, [], ◌∷◌, ◌++◌, map, ap, sym, refl, subst, arith}
use Rattle.std.proofs.lemmas.Bool.{ne_eqb}
use Rattle.std.proofs.lemmas.List.{append-nil, map-append}
use Rattle.std.specs.List.{AllByRecursion, range_with_len}
use Rattle.covbook.specs.Gather.{LogData}
use Rattle.covbook.specs.Op.{OpData, SubmitOp, ReceiptData}
use Rattle.covbook.specs.declared.reading.Reading.{Reading}
use Rattle.covworkers.specs.Collect.{places_of_job, submissions_of, asked_by, last_of, ops_in, AreJobLogs, HasRead, HasReadings}
use Rattle.covworkers.specs.Work.{WorkerData, Asks, FirstAsks, log_of, logs_in}
use Rattle.covworkers.proofs.Taken.{Outcome}
use Rattle.covworkers.proofs.Whole.{FollowsOutcomes, AllFollowOutcomes}

abbrev jobs_in : {F : Type 0} → List (WorkerData F) → List ℕ
jobs_in {F} workers = map (λ (w : WorkerData F). w.seat.job) workers

jobs_of_logs : {F : Type 0} (workers : List (WorkerData F)) → map (λ (log : LogData). log.job) (logs_in workers) ≡ jobs_in workers
jobs_of_logs [] = refl
jobs_of_logs (worker ∷ workers) = ap (λ (js : List ℕ). worker.seat.job ∷ js) (jobs_of_logs workers)

abbrev HasAsked : {F : Type 0} → (ℕ → Outcome F) → (count jobs : ℕ) → OpData → LogData → Type 0
HasAsked outcome count jobs last log = ops_in log.receipts ≡ asked_by outcome count jobs last log.job

not_last : (last : OpData) (job : ℕ) → 0 < job → last_of last job ≡ []
not_last last job above = ap (λ (b : Bool). if b then last ∷ [] else []) (ne_eqb job 0 (λ is. omega (arith, above, is)))

pub heads : (x y : ℕ) (xs ys : List ℕ) → ◌≡◌ {A = List ℕ} (x ∷ xs) (y ∷ ys) → x ≡ y
heads x y xs ys is = cc

tails : (x y : ℕ) (xs ys : List ℕ) → ◌≡◌ {A = List ℕ} (x ∷ xs) (y ∷ ys) → xs ≡ ys
tails x y xs ys is = cc

none_is_some : (x : ℕ) (xs : List ℕ) → ◌≡◌ {A = List ℕ} (x ∷ xs) [] → ⊥
none_is_some x xs is = cc

others_asked : {F : Type 0} (outcome : ℕ → Outcome F) (count jobs from some : ℕ) (last : OpData) (workers : List (WorkerData F)) → 0 < from → jobs_in workers ≡ range_with_len from some
    → AllByRecursion (FollowsOutcomes jobs count outcome) workers → AllByRecursion (HasAsked outcome count jobs last) (logs_in workers)
others_asked outcome count jobs from some last [] above are told = tt
others_asked outcome count jobs from zero last (worker ∷ workers) above are told = absurd (none_is_some worker.seat.job (jobs_in workers) are)
others_asked outcome count jobs from (suc some) last (worker ∷ workers) above are told =
    let own : worker.seat.job ≡ from = heads worker.seat.job from (jobs_in workers) (range_with_len (from + 1) some) are in
    let asked = map SubmitOp (submissions_of (places_of_job jobs worker.seat.job) outcome count) in
    let rest : jobs_in workers ≡ range_with_len (from + 1) some = tails worker.seat.job from (jobs_in workers) (range_with_len (from + 1) some) are in (
      told.0.asked ∙ sym (ap (λ (ops : List OpData). asked ++ ops) (not_last last worker.seat.job (omega (arith, own, above))) ∙ append-nil asked),
      others_asked outcome count jobs (from + 1) some last workers (omega arith) rest told.1,
    )

first_asked : {F : Type 0} (outcome : ℕ → Outcome F) (count jobs end : ℕ) (last : OpData) (first next : WorkerData F) → first.seat.job ≡ 0 → next.seat.job ≡ first.seat.job
    → Asks first.receipts next.receipts end last → FollowsOutcomes jobs count outcome first → HasAsked outcome count jobs last (log_of next)
first_asked outcome count jobs end last first next zero_is same asks told =
    let subs : ℕ → List OpData = λ job. map SubmitOp (submissions_of (places_of_job jobs job) outcome count) in
    subst (λ (job : ℕ). ops_in next.receipts ≡ asked_by outcome count jobs last job) (sym (same ∙ zero_is))
    (ap (λ (rs : List ReceiptData). ops_in rs) asks.behind
    ∙ map-append (λ (r : ReceiptData). r.op) first.receipts (asks.receipt ∷ [])
    ∙ ap (λ (ops : List OpData). ops ++ asks.receipt.op ∷ []) told.asked
    ∙ ap (λ (job : ℕ). subs job ++ asks.receipt.op ∷ []) zero_is
    ∙ ap (λ (op : OpData). subs 0 ++ op ∷ []) asks.asked)

pub logs_asked : {F : Type 0} (outcome : ℕ → Outcome F) (count jobs end : ℕ) (last : OpData) (workers after : List (WorkerData F)) → 0 < jobs → AllFollowOutcomes jobs 0 jobs count outcome workers
    → FirstAsks workers after end last → AreJobLogs outcome count jobs last (logs_in after)
logs_asked outcome count zero end last workers after some told asks = absurd (omega (arith, some))
logs_asked {F} outcome count (suc more) end last workers after some told asks =
    let are : asks.first.seat.job ∷ jobs_in asks.others ≡ 0 ∷ range_with_len 1 more = sym (ap (λ (ws : List (WorkerData F)). jobs_in ws) asks.old) ∙ told.are in
    let each : AllByRecursion (FollowsOutcomes (suc more) count outcome) (asks.first ∷ asks.others) = subst (λ (ws : List (WorkerData F)). AllByRecursion (FollowsOutcomes (suc more) count outcome) ws) asks.old told.each in
    let zero_is : asks.first.seat.job ≡ 0 = heads asks.first.seat.job 0 (jobs_in asks.others) (range_with_len 1 more) are in
    let rest : jobs_in asks.others ≡ range_with_len 1 more = tails asks.first.seat.job 0 (jobs_in asks.others) (range_with_len 1 more) are in
    subst (λ (ws : List (WorkerData F)). AreJobLogs outcome count (suc more) last (logs_in ws)) (sym asks.new) (
      jobs_of_logs (asks.next ∷ asks.others) ∙ ap (λ (job : ℕ). job ∷ jobs_in asks.others) asks.job ∙ are,
      (
        first_asked outcome count (suc more) end last asks.first asks.next zero_is asks.job asks.asks each.0,
        others_asked outcome count (suc more) 1 more last asks.others (omega arith) rest each.1,
      ),
    )

-- ---- what the jobs read

others_read : {F : Type 0} (outcome : ℕ → Outcome F) (count jobs from some : ℕ) (last : OpData) (workers : List (WorkerData F)) → 0 < from → jobs_in workers ≡ range_with_len from some
    → AllByRecursion (FollowsOutcomes jobs count outcome) workers → AllByRecursion (HasReadings last) (logs_in workers)
others_read outcome count jobs from some last [] above are told = tt
others_read outcome count jobs from zero last (worker ∷ workers) above are told = absurd (none_is_some worker.seat.job (jobs_in workers) are)
others_read outcome count jobs from (suc some) last (worker ∷ workers) above are told =
    let own : worker.seat.job ≡ from = heads worker.seat.job from (jobs_in workers) (range_with_len (from + 1) some) are in
    let rest : jobs_in workers ≡ range_with_len (from + 1) some = tails worker.seat.job from (jobs_in workers) (range_with_len (from + 1) some) are in
    let here : HasReadings last (log_of worker) = record {
      has_reader = worker.has_reader;
      submits = worker.receipts;
      others = [];
      receipts = sym (append-nil worker.receipts);
      asked = sym (not_last last worker.seat.job (omega (arith, own, above)));
      read = told.0.read;
    } in
    (here, others_read outcome count jobs (from + 1) some last workers (omega arith) rest told.1)

first_read : {F : Type 0} (outcome : ℕ → Outcome F) (count jobs end : ℕ) (last : OpData) (first next : WorkerData F) → first.seat.job ≡ 0 → next.seat.job ≡ first.seat.job
    → Asks first.receipts next.receipts end last → next.readings ≡ first.readings → FollowsOutcomes jobs count outcome first → HasReadings last (log_of next)
first_read outcome count jobs end last first next zero_is same asks readings told = record {
  has_reader = first.has_reader;
  submits = first.receipts;
  others = asks.receipt ∷ [];
  receipts = asks.behind;
  asked = ap (λ (op : OpData). op ∷ []) asks.asked ∙ sym (ap (λ (job : ℕ). last_of last job) (same ∙ zero_is));
  read = subst (λ (rs : List Reading). HasRead first.has_reader first.receipts rs) (sym readings) told.read;
}

pub logs_read : {F : Type 0} (outcome : ℕ → Outcome F) (count jobs end : ℕ) (last : OpData) (workers after : List (WorkerData F)) → 0 < jobs → AllFollowOutcomes jobs 0 jobs count outcome workers
    → FirstAsks workers after end last → AllByRecursion (HasReadings last) (logs_in after)
logs_read outcome count zero end last workers after some told asks = absurd (omega (arith, some))
logs_read {F} outcome count (suc more) end last workers after some told asks =
    let are : asks.first.seat.job ∷ jobs_in asks.others ≡ 0 ∷ range_with_len 1 more = sym (ap (λ (ws : List (WorkerData F)). jobs_in ws) asks.old) ∙ told.are in
    let each : AllByRecursion (FollowsOutcomes (suc more) count outcome) (asks.first ∷ asks.others) = subst (λ (ws : List (WorkerData F)). AllByRecursion (FollowsOutcomes (suc more) count outcome) ws) asks.old told.each in
    let zero_is : asks.first.seat.job ≡ 0 = heads asks.first.seat.job 0 (jobs_in asks.others) (range_with_len 1 more) are in
    let rest : jobs_in asks.others ≡ range_with_len 1 more = tails asks.first.seat.job 0 (jobs_in asks.others) (range_with_len 1 more) are in
    subst (λ (ws : List (WorkerData F)). AllByRecursion (HasReadings last) (logs_in ws)) (sym asks.new) (
      first_read outcome count (suc more) end last asks.first asks.next zero_is asks.job asks.asks asks.readings each.0,
      others_read outcome count (suc more) 1 more last asks.others (omega arith) rest each.1,
    )

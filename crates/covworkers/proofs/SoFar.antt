-- What is collected before a text is asked: with one more entry for the text, whichever it is, the history is collected. No worker
-- performs this entry's call. It is appended in the proof, and so is its receipt in the log of job 0.
use Rattle.std.proofs.Common.{◌≡◌, ◌∙◌, ℕ, zero, suc, ◌+◌, ◌<◌, ◌≤◌, List, [], ◌∷◌, ◌++◌, length, map, ap, sym, refl, subst, arith}
use Rattle.std.proofs.lemmas.List.{append-nil, length-append, map-append}
use Rattle.std.proofs.lemmas.List.Sums.{sum_by-cons}
use Rattle.std.specs.List.{AllByRecursion, range_with_len}
use Rattle.std.specs.List.Sorted.{IsPermutation, IsNonDecreasingBy}
use Rattle.covbook.specs.declared.reading.Reading.{Reading}
use Rattle.covbook.specs.Gather.{LogData, AreReadingsOf, IsGathered, IsLogOf, jobs_of}
use Rattle.covbook.specs.Kept.{IsPrefix, IsKept, KeptData, IsKeptWell, AreBefore, with_receipt, logs_kept, calls_kept}
use Rattle.covbook.specs.Op.{OpData, AnswerData, SubmitOp, DropTestOp, RenameOp, ReportOp, ExtractOp, RemoveOp, SummaryOp, EntryData, ReceiptData, AreLawfulOps, IsLawfulOp}
use Rattle.covbook.specs.Step.{IsLegal, answer_of, answers_to, next_entry, ops_in, receipt_of, table_after, table_of, totals_at, totals_to}
use Rattle.covbook.specs.Texts.{IsText}
use Rattle.covlock.specs.Seat.{SeatData, after_call, calls_in, logs_of}
use Rattle.covworkers.specs.declared.readers.Readers.TheVariants as readers
use Rattle.covworkers.specs.declared.refused.RefusedInput.{RefusedInput}
use Rattle.covworkers.specs.Collect.{HasRead, IsCollectedWith}
use Rattle.covworkers.specs.Late.{IsCollectedSoFar, chances_of}
use Rattle.covworkers.specs.Work.{Chances, FirstAsks, HasReceipts, HaveDone, WorkerData, logs_in, refused_in, seats_in}
use Rattle.covworkers.proofs.Everything.{collected_of}
use Rattle.covworkers.proofs.LastEntry.{GoesOn, SameTexts}
use Rattle.covworkers.proofs.Taken.{Outcome}
use Rattle.covworkers.proofs.Whole.{IsWhole, works_from, whole_of}

-- ---- laws of the book, as its functions state them

abbrev pub TotalsGoOn : Type 0
TotalsGoOn = (ops : List OpData) (op : OpData) → totals_to (ops ++ op ∷ []) ≡ totals_to ops ++ totals_at (table_after (table_of ops) op) ∷ []

abbrev pub OneMore : Type 0
OneMore =
    (log : LogData) (calls seen : ℕ) (latest before : List EntryData) (entry : EntryData) (told : ReceiptData) → IsKept log calls seen latest → entry.job ≡ log.job → receipt_of told.place entry ≡ told
    → length before ≡ told.place → seen ≤ told.place → IsPrefix latest (before ++ entry ∷ []) → IsKept (with_receipt log told) (calls + 1) (told.place + 1) (before ++ entry ∷ [])

abbrev pub GatheredByCount : Type 0
GatheredByCount =
    (entries : List EntryData) (jobs : ℕ) (kept : List KeptData) → jobs_of (logs_kept kept) ≡ range_with_len 0 jobs → AllByRecursion IsKeptWell kept
    → AllByRecursion (AreReadingsOf entries) (logs_kept kept) → AreBefore entries kept → length entries ≡ calls_kept kept → IsGathered entries (logs_kept kept)

-- ---- the history with the last entry

legal_next : (entries : List EntryData) (last : OpData) → GoesOn → TotalsGoOn → IsLegal entries → IsLegal (entries ++ next_entry entries 0 last ∷ [])
legal_next entries last goes totals legal =
    let next = next_entry entries 0 last in
    let ops : ops_in (entries ++ next ∷ []) ≡ ops_in entries ++ last ∷ [] = map-append (λ (e : EntryData). e.op) entries (next ∷ []) in
    record {
      answers = map-append (λ (e : EntryData). e.answer) entries (next ∷ []) ∙ ap (λ (told : List AnswerData). told ++ next.answer ∷ []) legal.answers
          ∙ sym (ap (λ (os : List OpData). answers_to os) ops ∙ goes (ops_in entries) last);
      totals = map-append (λ (e : EntryData). e.after) entries (next ∷ []) ∙ ap (λ ts. ts ++ next.after ∷ []) legal.totals
          ∙ sym (ap (λ (os : List OpData). totals_to os) ops ∙ totals (ops_in entries) last);
    }

text_is_lawful : (last : OpData) → IsText last → IsLawfulOp last
text_is_lawful (SubmitOp submission) is = absurd is
text_is_lawful (DropTestOp test) is = absurd is
text_is_lawful (RenameOp old new) is = absurd is
text_is_lawful ReportOp is = tt
text_is_lawful (ExtractOp patterns) is = tt
text_is_lawful (RemoveOp patterns) is = tt
text_is_lawful SummaryOp is = tt

all_after : {X : Type 0} (P : X → Type 0) (xs : List X) (x : X) → AllByRecursion P xs → P x → AllByRecursion P (xs ++ x ∷ [])
all_after P [] x all here = (here, tt)
all_after P (y ∷ xs) x all here = (all.0, all_after P xs x all.1 here)

lawful_next : (entries : List EntryData) (last : OpData) → IsText last → AreLawfulOps (ops_in entries) → AreLawfulOps (ops_in (entries ++ next_entry entries 0 last ∷ []))
lawful_next entries last is lawful =
    subst (λ (ops : List OpData). AreLawfulOps ops) (sym (map-append (λ (e : EntryData). e.op) entries (next_entry entries 0 last ∷ []))) (all_after IsLawfulOp (ops_in entries) last lawful (text_is_lawful last is))

-- ---- workers without readers

-- a worker has no readings
abbrev IsSilent : {F : Type 0} → WorkerData F → Type 0
IsSilent worker = worker.readings ≡ []

silent : {X F : Type 0} (MayGive : X → Outcome F → Type 0) (MayFail : X → Type 0) (inputs : List X) (jobs from some : ℕ) (workers : List (WorkerData F))
    → HaveDone (chances_of MayGive MayFail) (works_from inputs jobs readers.None from some) workers → AllByRecursion IsSilent workers
silent MayGive MayFail inputs jobs from zero [] done = tt
silent MayGive MayFail inputs jobs from zero (worker ∷ workers) done = absurd done
silent MayGive MayFail inputs jobs from (suc some) [] done = absurd done
silent MayGive MayFail inputs jobs from (suc some) (worker ∷ workers) done =
    (subst (λ has. HasRead has worker.receipts worker.readings) done.0.reader done.0.read, silent MayGive MayFail inputs jobs (from + 1) some workers done.1)

-- a worker's log without readings
abbrev silent_log : {F : Type 0} → WorkerData F → LogData
silent_log worker = record { job = worker.seat.job; receipts = worker.receipts; readings = [] }

-- what is known of a worker's calls: its log is of this history
abbrev kept_of : {F : Type 0} → List EntryData → WorkerData F → KeptData
kept_of entries worker = record { log = silent_log worker; calls = worker.seat.calls; seen = length entries; latest = entries }

logs_are_silent : {F : Type 0} (workers : List (WorkerData F)) → AllByRecursion IsSilent workers → logs_in workers ≡ map silent_log workers
logs_are_silent [] none = refl
logs_are_silent (worker ∷ workers) none =
    ap (λ (rs : List Reading). record { job = worker.seat.job; receipts = worker.receipts; readings = rs } ∷ logs_in workers) none.0 ∙ ap (λ (ls : List LogData). silent_log worker ∷ ls) (logs_are_silent workers none.1)

logs_are_kept : {F : Type 0} (entries : List EntryData) (workers : List (WorkerData F)) → logs_kept (map (kept_of entries) workers) ≡ map silent_log workers
logs_are_kept entries [] = refl
logs_are_kept entries (worker ∷ workers) = ap (λ (ls : List LogData). silent_log worker ∷ ls) (logs_are_kept entries workers)

nothing_read : {F : Type 0} (more entries : List EntryData) (workers : List (WorkerData F)) → AllByRecursion (AreReadingsOf more) (logs_kept (map (kept_of entries) workers))
nothing_read more entries [] = tt
nothing_read more entries (worker ∷ workers) = (tt, nothing_read more entries workers)

calls_are_kept : {F : Type 0} (entries : List EntryData) (workers : List (WorkerData F)) → calls_kept (map (kept_of entries) workers) ≡ calls_in (seats_in workers)
calls_are_kept entries [] = refl
calls_are_kept entries (worker ∷ workers) =
    let here : calls_kept (map (kept_of entries) (worker ∷ workers)) ≡ worker.seat.calls + calls_kept (map (kept_of entries) workers) =
    sum_by-cons (λ (k : KeptData). k.calls) (kept_of entries worker) (map (kept_of entries) workers) in
    let there : calls_in (seats_in (worker ∷ workers)) ≡ worker.seat.calls + calls_in (seats_in workers) = sum_by-cons (λ (s : SeatData). s.calls) worker.seat (seats_in workers) in
    omega (arith, here, there, calls_are_kept entries workers)

jobs_are_kept : {F : Type 0} (entries : List EntryData) (workers : List (WorkerData F)) → jobs_of (logs_kept (map (kept_of entries) workers)) ≡ map (λ (w : WorkerData F). w.seat.job) workers
jobs_are_kept entries [] = refl
jobs_are_kept entries (worker ∷ workers) = ap (λ (js : List ℕ). worker.seat.job ∷ js) (jobs_are_kept entries workers)

-- the workers' receipts are those of their seats, whose logs are of the closed history
well_kept : {F : Type 0} (entries : List EntryData) (workers : List (WorkerData F)) → AllByRecursion (λ (w : WorkerData F). HasReceipts w) workers → AllByRecursion (IsLogOf entries) (logs_of (seats_in workers))
    → AllByRecursion IsKeptWell (map (kept_of entries) workers)
well_kept entries [] all logs = tt
well_kept entries (worker ∷ workers) all logs = (
  record {
    log_of = subst (λ (rs : List ReceiptData). IsLogOf entries (record { job = worker.seat.job; receipts = rs; readings = [] })) (sym all.0.same) logs.0;
    counted = all.0.counted;
    upto = refl;
  },
  well_kept entries workers all.1 logs.1,
)

one_longer : (entries : List EntryData) (next : EntryData) → IsPrefix entries (entries ++ next ∷ [])
one_longer entries next = (next ∷ [], refl)

all_longer : {F : Type 0} (workers : List (WorkerData F)) (entries : List EntryData) (next : EntryData) → AreBefore (entries ++ next ∷ []) (map (kept_of entries) workers)
all_longer [] entries next = tt
all_longer (worker ∷ workers) entries next = (one_longer entries next, all_longer workers entries next)

-- ---- the last entry's call

abbrev told_last : List EntryData → OpData → ReceiptData
told_last entries last = record { place = length entries; op = last; answer = answer_of (table_of (ops_in entries)) last }

abbrev asks_next : {F : Type 0} → WorkerData F → List EntryData → OpData → WorkerData F
asks_next first entries last = record {
  seat = after_call first.seat (told_last entries last);
  receipts = first.receipts ++ told_last entries last ∷ [];
  has_reader = first.has_reader;
  readings = first.readings;
  refused = first.refused;
}

-- what is known of the workers when all have handed in their parts, and the book is closed
pub record AreClosed {F : Type 0} (workers : List (WorkerData F)) (entries : List EntryData) : Type 0 where
  pub receipts : AllByRecursion (λ (w : WorkerData F). HasReceipts w) workers
  pub gathered : IsGathered entries (logs_of (seats_in workers))
  pub calls : length entries ≡ calls_in (seats_in workers)
  pub legal : IsLegal entries
  pub lawful : AreLawfulOps (ops_in entries)

no_worker : (jobs : ℕ) → 0 < jobs → ◌≡◌ {A = List ℕ} [] (range_with_len 0 jobs) → ⊥
no_worker zero some are = omega (arith, some)
no_worker (suc jobs) some are = cc

first_is : (jobs job : ℕ) (others : List ℕ) → 0 < jobs → ◌≡◌ {A = List ℕ} (job ∷ others) (range_with_len 0 jobs) → job ≡ 0
first_is zero job others some are = absurd (omega (arith, some))
first_is (suc jobs) job others some are = cc

-- the history with the last entry, whichever text it asks for, is collected
text_asked : {X F : Type 0} (chances : Chances X F) (inputs : List X) (jobs : ℕ) (first : WorkerData F) (others : List (WorkerData F)) (entries : List EntryData) (refused : List (RefusedInput F))
    (whole : IsWhole chances inputs jobs (first ∷ others)) (last : OpData) → 0 < jobs → IsText last
    → AllByRecursion IsSilent (first ∷ others) → AreClosed (first ∷ others) entries
    → IsPermutation (refused_in (first ∷ others)) refused → IsNonDecreasingBy (λ (r : RefusedInput F). r.index) refused
    → GoesOn → TotalsGoOn → SameTexts → OneMore → GatheredByCount
    → (logs : List LogData) × IsCollectedWith whole.outcome (length inputs) jobs last (entries ++ next_entry entries 0 last ∷ []) logs refused
text_asked {X} {F} chances inputs jobs first others entries refused whole last some is none closed same sorted goes totals texts one_more by_count =
    let next = next_entry entries 0 last in
    let told = told_last entries last in
    let asker = asks_next first entries last in
    let after : List (WorkerData F) = asker ∷ others in
    let more : List EntryData = entries ++ next ∷ [] in
    let zero_is : first.seat.job ≡ 0 = first_is jobs first.seat.job (map (λ (w : WorkerData F). w.seat.job) others) some whole.tell.are in
    let well : AllByRecursion IsKeptWell (map (kept_of entries) (first ∷ others)) = well_kept entries (first ∷ others) closed.receipts closed.gathered.merge.kept in
    let later : length entries ≤ length entries = omega arith in
    let long : length more ≡ length entries + 1 = length-append entries (next ∷ []) in
    let own : IsKeptWell (kept_of more asker) =
    subst (λ (seen : ℕ). IsKept (silent_log asker) (first.seat.calls + 1) seen more) (sym long)
    (one_more (silent_log first) first.seat.calls (length entries) entries entries next told well.0 (sym zero_is) refl refl later (one_longer entries next)) in
    let kept : List KeptData = kept_of more asker ∷ map (kept_of entries) others in
    let silent_after : AllByRecursion IsSilent after = (none.0, none.1) in
    let before : AreBefore more kept = (([], append-nil more), all_longer others entries next) in
    let own_calls : calls_in (seats_in (first ∷ others)) ≡ first.seat.calls + calls_in (seats_in others) = sum_by-cons (λ (s : SeatData). s.calls) first.seat (seats_in others) in
    let more_calls : calls_kept kept ≡ first.seat.calls + 1 + calls_kept (map (kept_of entries) others) = sum_by-cons (λ (k : KeptData). k.calls) (kept_of more asker) (map (kept_of entries) others) in
    let count : length more ≡ calls_kept kept = omega (arith, long, closed.calls, own_calls, more_calls, calls_are_kept entries others) in
    let jobs_are : jobs_of (logs_kept kept) ≡ range_with_len 0 jobs = ap (λ (js : List ℕ). first.seat.job ∷ js) (jobs_are_kept entries others) ∙ whole.tell.are in
    let gathered : IsGathered more (logs_kept kept) = by_count more jobs kept jobs_are (own, well.1) (tt, nothing_read more entries others) before count in
    let logs : logs_kept kept ≡ logs_in after = ap (λ (ls : List LogData). silent_log asker ∷ ls) (logs_are_kept entries others) ∙ sym (logs_are_silent after silent_after) in
    let asks : FirstAsks (first ∷ others) after (length more) last = record {
      first = first;
      next = asker;
      others = others;
      old = refl;
      new = refl;
      job = refl;
      asks = record { receipt = told; behind = refl; asked = refl; place = sym long };
      readings = refl;
      refused = refl;
    } in (
      logs_in after,
      collected_of chances inputs jobs (length more) last (first ∷ others) after more refused whole some asks same sorted (legal_next entries last goes totals closed.legal) (lawful_next entries last is closed.lawful)
          (subst (λ (ls : List LogData). IsGathered more ls) logs gathered) refl goes texts,
    )

-- what is collected before a text is asked
pub so_far : {X F : Type 0} (MayGive : X → Outcome F → Type 0) (MayFail : X → Type 0) (inputs : List X) (jobs : ℕ) (workers : List (WorkerData F)) (entries : List EntryData) (refused : List (RefusedInput F)) → 0 < jobs
    → HaveDone (chances_of MayGive MayFail) (works_from inputs jobs readers.None 0 jobs) workers → AreClosed workers entries
    → IsPermutation (refused_in workers) refused → IsNonDecreasingBy (λ (r : RefusedInput F). r.index) refused
    → GoesOn → TotalsGoOn → SameTexts → OneMore → GatheredByCount
    → IsCollectedSoFar MayGive inputs jobs entries refused
so_far MayGive MayFail inputs jobs [] entries refused some done closed same sorted goes totals texts one_more by_count =
    let whole = whole_of (chances_of MayGive MayFail) readers.None inputs jobs [] some done in
    absurd (no_worker jobs some whole.tell.are)
so_far MayGive MayFail inputs jobs (first ∷ others) entries refused some done closed same sorted goes totals texts one_more by_count =
    let whole = whole_of (chances_of MayGive MayFail) readers.None inputs jobs (first ∷ others) some done in
    let none = silent MayGive MayFail inputs jobs 0 jobs (first ∷ others) done in (
      whole.outcome,
      whole.outcomes,
      λ last is. text_asked (chances_of MayGive MayFail) inputs jobs first others entries refused whole last some is none closed same sorted goes totals texts one_more by_count,
    )

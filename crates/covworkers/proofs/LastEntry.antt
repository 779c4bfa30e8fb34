-- The last entry of a history is that of job 0's last receipt. If its answer is a text, it depends only on the submissions.
use Rattle.std.proofs.Common.{◌≡◌, ◌∙◌, inl, inr, ℕ, zero, suc, ◌+◌, ◌<◌, Bool, true, false, if◌then◌else◌, List, [], ◌∷◌, ◌++◌, length, map, Option, Some, None, slice_get, ap, sym, refl, subst, arith}
use Rattle.std.specs.Prelude.{IsSomeAnd}
use Rattle.std.proofs.Math.Dec.{eqb}
use Rattle.std.proofs.lemmas.List.{append-nil, map-append}
use Rattle.std.proofs.lemmas.List.Concat.{flat_map-append}
use Rattle.std.proofs.lemmas.List.Sorted.{IsPermutation-sym, IsPermutation-trans}
use Rattle.std.specs.List.{AllByRecursion, range_with_len, flat_map}
use Rattle.std.specs.List.Sorted.{IsPermutation}
use Rattle.covdata.specs.Row.{SubmissionData}
use Rattle.covbook.specs.Gather.{LogData, places_of, places_in, IsReceiptOf, IsLogOf, IsMerge}
use Rattle.covbook.specs.Op.{OpData, SubmitOp, DropTestOp, RenameOp, ReportOp, ExtractOp, RemoveOp, SummaryOp, EntryData, ReceiptData}
use Rattle.covbook.specs.Order.{AreAgreeing, AreTheSame, OnlySubmitsAndAsks, SubmitsOrAsks, submission_of, submissions_in}
use Rattle.covbook.specs.Step.{IsLegal, answer_of, answers_in, answers_to, receipt_of, table_of, ops_in as ops_of}
use Rattle.covbook.specs.Texts.{IsText}
use Rattle.covworkers.specs.Collect.{all_places, asked_by, last_of, ops_in, places_of_job, submissions_of, AreJobLogs, EndsWith}
use Rattle.covworkers.specs.Work.{WorkerData, FirstAsks, log_of, logs_in}
use Rattle.covworkers.proofs.AskedLast.{heads}
use Rattle.covworkers.proofs.EachOnce.{In, In-from, In-parts, each_once}
use Rattle.covworkers.proofs.Gathered.{all_joined, all_submitted}
use Rattle.covworkers.proofs.Histories.{same_submitted}
use Rattle.covworkers.proofs.Taken.{Outcome}

-- a law of the book: a run with one more operation has the same answers, and then the answer to this operation at the table
-- where the run ended
abbrev pub GoesOn : Type 0
GoesOn = (ops : List OpData) (op : OpData) → answers_to (ops ++ op ∷ []) ≡ answers_to ops ++ answer_of (table_of ops) op ∷ []

-- a law of the book: a text doesn't depend on the order of the submissions, if nothing is dropped or renamed and they agree
abbrev pub SameTexts : Type 0
SameTexts =
    (some others : List OpData) → OnlySubmitsAndAsks some → OnlySubmitsAndAsks others → AreTheSame (submissions_in some) (submissions_in others)
    → AreAgreeing (submissions_in some) → (op : OpData) → IsText op → answer_of (table_of some) op ≡ answer_of (table_of others) op

-- ---- the last element of a list

all_front : {X : Type 0} (P : X → Type 0) (xs ys : List X) → AllByRecursion P (xs ++ ys) → AllByRecursion P xs
all_front P [] ys all = tt
all_front P (x ∷ xs) ys all = (all.0, all_front P xs ys all.1)

all_last : {X : Type 0} (P : X → Type 0) (xs : List X) (y : X) → AllByRecursion P (xs ++ y ∷ []) → P y
all_last P [] y all = all.0
all_last P (x ∷ xs) y all = all_last P xs y all.1

abbrev final : {X : Type 0} → X → List X → X
final d [] = d
final d (x ∷ xs) = final x xs

final_after : {X : Type 0} (d : X) (xs : List X) (y : X) → final d (xs ++ y ∷ []) ≡ y
final_after d [] y = refl
final_after d (x ∷ xs) y = final_after x xs y

last_same : {X : Type 0} (xs ys : List X) (x y : X) → ◌≡◌ {A = List X} (xs ++ x ∷ []) (ys ++ y ∷ []) → x ≡ y
last_same {X} xs ys x y is = sym (final_after x xs x) ∙ ap (λ (zs : List X). final x zs) is ∙ final_after x ys y

-- there is a last entry, and P holds of it
record LastIs (P : EntryData → Type 0) (entries : List EntryData) : Type 0 where
  before : List EntryData
  entry : EntryData
  place : entries ≡ before ++ entry ∷ []
  holds : P entry

last_at : (P : EntryData → Type 0) (entries : List EntryData) (place : ℕ) → place + 1 ≡ length entries → IsSomeAnd (slice_get entries place) P → LastIs P entries
last_at P [] place long at = absurd at
last_at P (e ∷ []) zero long at = record { before = []; entry = e; place = refl; holds = at }
last_at P (e ∷ []) (suc place) long at = absurd at
last_at P (e ∷ next ∷ entries) zero long at = absurd (omega (arith, long))
last_at P (e ∷ next ∷ entries) (suc place) long at =
    let rest = last_at P (next ∷ entries) place (omega (arith, long)) at in
    record { before = e ∷ rest.before; entry = rest.entry; place = ap (λ (es : List EntryData). e ∷ es) rest.place; holds = rest.holds }

-- ---- the last entry is job 0's

abbrev IsLastOf : OpData → EntryData → Type 0
IsLastOf last e = (e.op ≡ last) × (e.job ≡ 0)

is_last_of : (found : Option EntryData) (job : ℕ) (r : ReceiptData) (last : OpData) → job ≡ 0 → r.op ≡ last → IsSomeAnd found (λ (e : EntryData). e.job ≡ job)
    → IsSomeAnd found (λ (e : EntryData). receipt_of r.place e ≡ r) → IsSomeAnd found (IsLastOf last)
is_last_of None job r last zero_is asked own same = absurd own
is_last_of (Some e) job r last zero_is asked own same = (ap (λ (r : ReceiptData). r.op) same ∙ asked, own ∙ zero_is)

first_job : (jobs : ℕ) (log : LogData) (logs : List LogData) → 0 < jobs → map (λ (l : LogData). l.job) (log ∷ logs) ≡ range_with_len 0 jobs → log.job ≡ 0
first_job zero log logs some are = absurd (omega (arith, some))
first_job (suc more) log logs some are = heads log.job 0 (map (λ (l : LogData). l.job) logs) (range_with_len 1 more) are

last_is : {F : Type 0} (outcome : ℕ → Outcome F) (count jobs end : ℕ) (last : OpData) (workers after : List (WorkerData F)) (entries : List EntryData) → 0 < jobs → FirstAsks workers after end last
    → AllByRecursion (IsLogOf entries) (logs_in after) → AreJobLogs outcome count jobs last (logs_in after) → length entries ≡ end → LastIs (IsLastOf last) entries
last_is {F} outcome count jobs end last workers after entries some asks kept asked long =
    let new : AllByRecursion (IsLogOf entries) (log_of asks.next ∷ logs_in asks.others) = subst (λ (ws : List (WorkerData F)). AllByRecursion (IsLogOf entries) (logs_in ws)) asks.new kept in
    let jobs_are : AreJobLogs outcome count jobs last (log_of asks.next ∷ logs_in asks.others) = subst (λ (ws : List (WorkerData F)). AreJobLogs outcome count jobs last (logs_in ws)) asks.new asked in
    let zero_is : asks.next.seat.job ≡ 0 = first_job jobs (log_of asks.next) (logs_in asks.others) some jobs_are.0 in
    let r = asks.asks.receipt in
    let own = all_last (λ (r : ReceiptData). IsSomeAnd (slice_get entries r.place) (λ (e : EntryData). e.job ≡ asks.next.seat.job)) asks.first.receipts r
    (subst (λ (rs : List ReceiptData). AllByRecursion (λ (r : ReceiptData). IsSomeAnd (slice_get entries r.place) (λ (e : EntryData). e.job ≡ asks.next.seat.job)) rs) asks.asks.behind new.0.own) in
    let same = all_last (IsReceiptOf entries) asks.first.receipts r (subst (λ (rs : List ReceiptData). AllByRecursion (IsReceiptOf entries) rs) asks.asks.behind new.0.same) in
    last_at (IsLastOf last) entries r.place (asks.asks.place ∙ sym long) (is_last_of (slice_get entries r.place) asks.next.seat.job r last zero_is asks.asks.asked own same)

-- ---- the answer of the last entry

last_answer : (before : List EntryData) (entry : EntryData) (entries : List EntryData) → IsLegal entries → entries ≡ before ++ entry ∷ [] → GoesOn
    → entry.answer ≡ answer_of (table_of (ops_of before)) entry.op
last_answer before entry entries legal place goes =
    let told : answers_in (before ++ entry ∷ []) ≡ answers_to (ops_of (before ++ entry ∷ [])) = subst (λ (es : List EntryData). answers_in es ≡ answers_to (ops_of es)) place legal.answers in
    last_same (answers_in before) (answers_to (ops_of before)) entry.answer (answer_of (table_of (ops_of before)) entry.op)
    (sym (map-append (λ (e : EntryData). e.answer) before (entry ∷ [])) ∙ told
    ∙ ap (λ (ops : List OpData). answers_to ops) (map-append (λ (e : EntryData). e.op) before (entry ∷ [])) ∙ goes (ops_of before) entry.op)

-- ---- what holds of all operations in the logs holds of those in the entries

has_op : (P : OpData → Type 0) (found : Option EntryData) (r : ReceiptData) → IsSomeAnd found (λ (e : EntryData). receipt_of r.place e ≡ r) → P r.op → IsSomeAnd found (λ (e : EntryData). P e.op)
has_op P None r is hold = absurd is
has_op P (Some e) r is hold = subst (λ (r : ReceiptData). P r.op) (sym is) hold

at_receipt : (P : OpData → Type 0) (entries : List EntryData) (receipts : List ReceiptData) (place : ℕ) → AllByRecursion (IsReceiptOf entries) receipts → AllByRecursion P (ops_in receipts)
    → In place (map (λ (r : ReceiptData). r.place) receipts) → IsSomeAnd (slice_get entries place) (λ (e : EntryData). P e.op)
at_receipt P entries [] place are hold h = absurd h
at_receipt P entries (r ∷ receipts) place are hold (inl e) =
    subst (λ (p : ℕ). IsSomeAnd (slice_get entries p) (λ (e : EntryData). P e.op)) e (has_op P (slice_get entries r.place) r are.0 hold.0)
at_receipt P entries (r ∷ receipts) place are hold (inr h) = at_receipt P entries receipts place are.1 hold.1 h

at_log : (P : OpData → Type 0) (entries : List EntryData) (logs : List LogData) (place : ℕ) → AllByRecursion (IsLogOf entries) logs
    → AllByRecursion (λ (log : LogData). AllByRecursion P (ops_in log.receipts)) logs → In place (places_in logs) → IsSomeAnd (slice_get entries place) (λ (e : EntryData). P e.op)
at_log P entries [] place are hold h = absurd h
at_log P entries (log ∷ logs) place are hold h = elim (In-parts (places_of log) (places_in logs) place h) [
  | inl here ↦ at_receipt P entries log.receipts place are.0.same hold.0 here
  | inr there ↦ at_log P entries logs place are.1 hold.1 there
]

from_places : (P : OpData → Type 0) (entries : List EntryData) → ((place : ℕ) → place < length entries → IsSomeAnd (slice_get entries place) (λ (e : EntryData). P e.op))
    → AllByRecursion P (ops_of entries)
from_places P [] at = tt
from_places P (e ∷ entries) at = (at 0 (omega arith), from_places P entries (λ place less. at (suc place) (omega (arith, less))))

-- ---- the submissions in logs and entries, and that all other operations ask for texts

submits_all : (subs : List SubmissionData) → OnlySubmitsAndAsks (map SubmitOp subs)
submits_all [] = tt
submits_all (s ∷ subs) = (tt, submits_all subs)

submitted_all : (subs : List SubmissionData) → submissions_in (map SubmitOp subs) ≡ subs
submitted_all [] = refl
submitted_all (s ∷ subs) = ap (λ (ss : List SubmissionData). s ∷ ss) (submitted_all subs)

text_asks : (op : OpData) → IsText op → SubmitsOrAsks op
text_asks (SubmitOp submission) is = tt
text_asks (DropTestOp test) is = absurd is
text_asks (RenameOp old new) is = absurd is
text_asks ReportOp is = tt
text_asks (ExtractOp patterns) is = tt
text_asks (RemoveOp patterns) is = tt
text_asks SummaryOp is = tt

no_submission : (op : OpData) → IsText op → submission_of op ≡ []
no_submission (SubmitOp submission) is = absurd is
no_submission (DropTestOp test) is = refl
no_submission (RenameOp old new) is = refl
no_submission ReportOp is = refl
no_submission (ExtractOp patterns) is = refl
no_submission (RemoveOp patterns) is = refl
no_submission SummaryOp is = refl

asks_last : (last : OpData) → IsText last → (here : Bool) → OnlySubmitsAndAsks (if here then last ∷ [] else [])
asks_last last is true = (text_asks last is, tt)
asks_last last is false = tt

last_submits_none : (last : OpData) → IsText last → (here : Bool) → submissions_in (if here then last ∷ [] else []) ≡ []
last_submits_none last is true = ap (λ (ss : List SubmissionData). ss ++ []) (no_submission last is)
last_submits_none last is false = refl

job_submits : {F : Type 0} (outcome : ℕ → Outcome F) (count jobs : ℕ) (last : OpData) (job : ℕ) → IsText last → submissions_in (asked_by outcome count jobs last job) ≡ submissions_of (places_of_job jobs job) outcome count
job_submits outcome count jobs last job is =
    let subs = submissions_of (places_of_job jobs job) outcome count in
    flat_map-append submission_of (map SubmitOp subs) (last_of last job)
    ∙ ap (λ (ss : List SubmissionData). ss ++ submissions_in (last_of last job)) (submitted_all subs)
    ∙ ap (λ (ss : List SubmissionData). subs ++ ss) (last_submits_none last is (eqb job 0))
    ∙ append-nil subs

abbrev HasAsked : {F : Type 0} → (ℕ → Outcome F) → (count jobs : ℕ) → OpData → LogData → Type 0
HasAsked outcome count jobs last log = ops_in log.receipts ≡ asked_by outcome count jobs last log.job

abbrev log_submits : LogData → List SubmissionData
log_submits log = submissions_in (ops_in log.receipts)

logs_submit_by_job : {F : Type 0} (outcome : ℕ → Outcome F) (count jobs : ℕ) (last : OpData) (logs : List LogData) → IsText last → AllByRecursion (HasAsked outcome count jobs last) logs
    → flat_map log_submits logs ≡ flat_map (λ job. submissions_of (places_of_job jobs job) outcome count) (map (λ (log : LogData). log.job) logs)
logs_submit_by_job outcome count jobs last [] is asked = refl
logs_submit_by_job outcome count jobs last (log ∷ logs) is asked =
    ap (λ (ops : List OpData). submissions_in ops ++ flat_map log_submits logs) asked.0
    ∙ ap (λ (ss : List SubmissionData). ss ++ flat_map log_submits logs) (job_submits outcome count jobs last log.job is)
    ∙ ap (λ (ss : List SubmissionData). submissions_of (places_of_job jobs log.job) outcome count ++ ss) (logs_submit_by_job outcome count jobs last logs is asked.1)

logs_ask : {F : Type 0} (outcome : ℕ → Outcome F) (count jobs : ℕ) (last : OpData) (logs : List LogData) → IsText last → AllByRecursion (HasAsked outcome count jobs last) logs
    → AllByRecursion (λ (log : LogData). OnlySubmitsAndAsks (ops_in log.receipts)) logs
logs_ask outcome count jobs last [] is asked = tt
logs_ask outcome count jobs last (log ∷ logs) is asked =
    let subs = submissions_of (places_of_job jobs log.job) outcome count in (
      subst (λ (ops : List OpData). OnlySubmitsAndAsks ops) (sym asked.0) (all_joined SubmitsOrAsks (map SubmitOp subs) (last_of last log.job) (submits_all subs) (asks_last last is (eqb log.job 0))),
      logs_ask outcome count jobs last logs is asked.1,
    )

-- the history's submissions are those of all inputs, in another order
history_submits : {F : Type 0} (outcome : ℕ → Outcome F) (count jobs : ℕ) (last : OpData) (entries : List EntryData) (logs : List LogData) → 0 < jobs → IsText last → IsMerge entries logs
    → AreJobLogs outcome count jobs last logs → IsPermutation (submissions_of all_places outcome count) (submissions_in (ops_of entries))
history_submits outcome count jobs last entries logs some is merge asked =
    let by_job : ℕ → List SubmissionData = λ job. submissions_of (places_of_job jobs job) outcome count in
    let told = flat_map log_submits logs in
    let all = submissions_of all_places outcome count in
    let is_told : told ≡ flat_map by_job (range_with_len 0 jobs) = logs_submit_by_job outcome count jobs last logs is asked.1 ∙ ap (λ (js : List ℕ). flat_map by_job js) asked.0 in
    IsPermutation-trans all told (submissions_in (ops_of entries))
    (IsPermutation-sym told all (subst (λ (ss : List SubmissionData). IsPermutation ss all) (sym is_told) (all_submitted jobs count outcome some)))
    (same_submitted entries logs merge.kept (each_once entries logs merge))

front_submits : (before : List EntryData) (entry : EntryData) (last : OpData) → IsText last → entry.op ≡ last → submissions_in (ops_of (before ++ entry ∷ [])) ≡ submissions_in (ops_of before)
front_submits before entry last is is_last =
    let front = submissions_in (ops_of before) in
    ap (λ (ops : List OpData). submissions_in ops) (map-append (λ (e : EntryData). e.op) before (entry ∷ []))
    ∙ flat_map-append submission_of (ops_of before) (entry.op ∷ [])
    ∙ ap (λ (op : OpData). front ++ (submission_of op ++ [])) is_last
    ∙ ap (λ (ss : List SubmissionData). front ++ (ss ++ [])) (no_submission last is)
    ∙ append-nil front

front_asks : {F : Type 0} (outcome : ℕ → Outcome F) (count jobs : ℕ) (last : OpData) (entries : List EntryData) (logs : List LogData) (before : List EntryData) (entry : EntryData) → IsText last
    → IsMerge entries logs → AreJobLogs outcome count jobs last logs → entries ≡ before ++ entry ∷ [] → OnlySubmitsAndAsks (ops_of before)
front_asks outcome count jobs last entries logs before entry is merge asked place =
    let every : OnlySubmitsAndAsks (ops_of entries) =
    from_places SubmitsOrAsks entries (λ place less. at_log SubmitsOrAsks entries logs place merge.kept (logs_ask outcome count jobs last logs is asked.1) (In-from (places_in logs) place (merge.whole place less))) in
    all_front SubmitsOrAsks (ops_of before) (entry.op ∷ [])
    (subst (λ (ops : List OpData). OnlySubmitsAndAsks ops) (ap (λ (es : List EntryData). ops_of es) place ∙ map-append (λ (e : EntryData). e.op) before (entry ∷ [])) every)

text_is : {F : Type 0} (outcome : ℕ → Outcome F) (count jobs : ℕ) (last : OpData) (entries : List EntryData) (logs : List LogData) (before : List EntryData) (entry : EntryData) → 0 < jobs
    → IsLegal entries → IsMerge entries logs → AreJobLogs outcome count jobs last logs → entries ≡ before ++ entry ∷ [] → entry.op ≡ last → GoesOn → SameTexts
    → IsText last → AreAgreeing (submissions_of all_places outcome count) → entry.answer ≡ answer_of (table_of (map SubmitOp (submissions_of all_places outcome count))) last
text_is outcome count jobs last entries logs before entry some legal merge asked place is_last goes same is agree =
    let all = submissions_of all_places outcome count in
    let moved : IsPermutation all (submissions_in (ops_of before)) =
    subst (λ (ss : List SubmissionData). IsPermutation all ss) (ap (λ (es : List EntryData). submissions_in (ops_of es)) place ∙ front_submits before entry last is is_last)
    (history_submits outcome count jobs last entries logs some is merge asked) in
    last_answer before entry entries legal place goes
    ∙ ap (λ (op : OpData). answer_of (table_of (ops_of before)) op) is_last
    ∙ sym (same (map SubmitOp all) (ops_of before) (submits_all all) (front_asks outcome count jobs last entries logs before entry is merge asked place)
    (subst (λ (ss : List SubmissionData). IsPermutation ss (submissions_in (ops_of before))) (sym (submitted_all all)) moved)
    (subst (λ (ss : List SubmissionData). AreAgreeing ss) (sym (submitted_all all)) agree) last is)

-- if the history has as many entries as job 0 saw after its last call, it ends with that call's entry
pub ends_with : {F : Type 0} (outcome : ℕ → Outcome F) (count jobs end : ℕ) (last : OpData) (workers after : List (WorkerData F)) (entries : List EntryData) → 0 < jobs → FirstAsks workers after end last
    → IsLegal entries → IsMerge entries (logs_in after) → AreJobLogs outcome count jobs last (logs_in after) → length entries ≡ end → GoesOn → SameTexts
    → EndsWith (submissions_of all_places outcome count) last entries
ends_with outcome count jobs end last workers after entries some asks legal merge asked long goes same =
    let found = last_is outcome count jobs end last workers after entries some asks merge.kept asked long in
    record {
      before = found.before;
      entry = found.entry;
      place = found.place;
      asked = found.holds.0;
      asker = found.holds.1;
      text = text_is outcome count jobs last entries (logs_in after) found.before found.entry some legal merge asked found.place found.holds.0 goes same;
    }

-- The least place of an input that can't be read: all inputs before it were read, each by its own worker.
use Rattle.std.proofs.Common.{◌≡◌, ◌∙◌, ◌⊎◌, inl, inr, ap, ℕ, zero, suc, ◌+◌, ◌-◌, ◌^◌, ◌<◌, ◌%◌, Bool, true, IsTrue, List, [], ◌∷◌, length, take, Ok, Err, slice_get, sym, refl, subst, arith}
use Rattle.std.specs.Prelude.{IsSomeAnd, ◌≤◌, ◌==◌, if◌then◌else◌, nat_le, false}
use Rattle.std.specs.List.{AllByRecursion, Contains, sum_by}
use Rattle.std.proofs.lemmas.Bool.{and_parts, eq-eqb, eqb-true, leb-true}
use Rattle.std.proofs.lemmas.Nat.{mod_below}
use Rattle.covbook.specs.declared.book.BookFault.{BookFault}
use Rattle.covbook.specs.declared.book.BookFault.TheVariants as book
use Rattle.covbook.specs.Step.{max_entries}
use Rattle.covworkers.specs.declared.book_fault.IntoBookFault.{IntoBookFault}
use Rattle.covworkers.specs.declared.book_fault.IntoBookFault.TheVariants as into_book
use Rattle.covworkers.specs.declared.collect_fault.CollectFault.{CollectFault}
use Rattle.covworkers.specs.declared.collect_fault.CollectFault.TheVariants as collects
use Rattle.covworkers.specs.declared.readers.Readers.{Readers}
use Rattle.covworkers.specs.declared.stop.Refusal.{Refusal}
use Rattle.covworkers.specs.declared.stop.Stop.{Stop}
use Rattle.covworkers.specs.declared.stop.Stop.TheVariants as stops
use Rattle.covworkers.specs.Late.{FillHistory, MayCome, IsFirstUnread, IsIntoBookFault, IsUnreadFault, chances_of}
use Rattle.covworkers.specs.Stops.{has_filled, no_memory, of_refused, of_stop}
use Rattle.covworkers.specs.Work.{Chances, WorkData, HasEnded, HasOutcome, HaveEnded, IsFrom, IsStarted, IsUnreadAt, IsNotBefore, IsLeastUnread, IsWorstEnd, parts_of_end, parts_of_stop}
use Rattle.covworkers.proofs.Ended.{End}
use Rattle.covworkers.proofs.Filled.{filled_though_refused}
use Rattle.covworkers.proofs.GoingOn.{read_of}
use Rattle.covworkers.proofs.Taken.{Outcome}
use Rattle.covworkers.proofs.Whole.{works_from}

-- ---- inputs that were read

-- the inputs before a place were read
pub before_read : {X F : Type 0} (MayGive : X → Outcome F → Type 0) (inputs : List X) (index : ℕ)
    → ((place : ℕ) → place < index → place < length inputs → IsSomeAnd (slice_get inputs place) (λ late. HasOutcome (MayGive late)))
    → AllByRecursion (λ (late : X). HasOutcome (MayGive late)) (take index inputs)
before_read MayGive inputs zero each = tt
before_read MayGive [] (suc index) each = tt
before_read MayGive (late ∷ inputs) (suc index) each =
    (each 0 (omega arith) (omega arith), before_read MayGive inputs index (λ place less within. each (suc place) (omega (arith, less)) (omega (arith, within))))

-- ---- the least place

-- a worker that has read its inputs before a place was started
started : {F : Type 0} (index : ℕ) (end : End F) → IsNotBefore index end → IsStarted end
started index (Ok worker) is = tt
started index (Err (stops.Unread other)) is = tt
started index (Err (stops.Refused refusal)) is = omega (arith, is)

all_started : {F : Type 0} (index : ℕ) (ended : List (End F)) → AllByRecursion (IsNotBefore index) ended → AllByRecursion IsStarted ended
all_started index [] all = tt
all_started index (end ∷ ended) all = (started index end all.0, all_started index ended all.1)

true_is : {b : Bool} → b ≡ true → IsTrue b
true_is e = e

-- a worker whose end doesn't come before `index` has read its inputs before `index`
read_by : {X F : Type 0} (chances : Chances X F) (readers : Readers) (inputs : List X) (jobs job index place : ℕ) (end : End F) → HasEnded chances (record { inputs = inputs; jobs = jobs; job = job; readers = readers }) end
    → IsNotBefore index end → place < index → place < length inputs → place % jobs ≡ job → IsSomeAnd (slice_get inputs place) (λ input. HasOutcome (chances.Gives input))
read_by chances readers inputs jobs job index place (Ok worker) done not_before less within own =
    read_of chances inputs jobs job (length inputs) worker.receipts worker.refused done.taken place within within (true_is (eq-eqb (place % jobs) job own))
read_by chances readers inputs jobs job index place (Err (stops.Unread other)) stopped not_before less within own =
    stopped.before place (omega (arith, less, not_before)) within (true_is (eq-eqb (place % jobs) job own))
read_by chances readers inputs jobs job index place (Err (stops.Refused refusal)) read not_before less within own =
    read.0 place (omega (arith, less, not_before)) within (true_is (eq-eqb (place % jobs) job own))

-- the worker of a place's job has read the input at the place
read_at : {X F : Type 0} (chances : Chances X F) (readers : Readers) (inputs : List X) (jobs from some : ℕ) (ended : List (End F)) (index place k : ℕ) → HaveEnded chances (works_from inputs jobs readers from some) ended
    → AllByRecursion (IsNotBefore index) ended → k < some → place < index → place < length inputs → place % jobs ≡ from + k → IsSomeAnd (slice_get inputs place) (λ input. HasOutcome (chances.Gives input))
read_at chances readers inputs jobs from zero ended index place k done all below less within own = absurd (omega (arith, below))
read_at chances readers inputs jobs from (suc some) [] index place k done all below less within own = absurd done
read_at chances readers inputs jobs from (suc some) (end ∷ ended) index place zero done all below less within own =
    read_by chances readers inputs jobs from index place end done.0 all.0 less within (own ∙ none_more from)
  where
    none_more : (from : ℕ) → from + 0 ≡ from
    none_more from = omega arith
read_at chances readers inputs jobs from (suc some) (end ∷ ended) index place (suc k) done all below less within own =
    read_at chances readers inputs jobs (from + 1) some ended index place k done.1 all.1 (omega (arith, below)) less within (own ∙ one_more from k)
  where
    one_more : (from k : ℕ) → from + suc k ≡ from + 1 + k
    one_more from k = omega arith

-- if a worker stopped at an input that can't be read, the input is one that may fail
fails_by : {X F : Type 0} (chances : Chances X F) (works : List (WorkData X)) (inputs : List X) (ended : List (End F)) (index : ℕ) → AllByRecursion (λ (work : WorkData X). work.inputs ≡ inputs) works → HaveEnded chances works ended
    → Contains ended (Err (stops.Unread index)) → IsSomeAnd (slice_get inputs index) chances.MayFail
fails_by chances [] inputs [] index same done there = absurd (omega (arith, there.1))
fails_by chances [] inputs (end ∷ ended) index same done there = absurd done
fails_by chances (work ∷ works) inputs [] index same done there = absurd done
fails_by {X} {F} chances (work ∷ works) inputs (end ∷ ended) index same done (zero, less, is) =
    let stopped : IsUnreadAt chances work.inputs work.jobs work.job index = subst (λ (e : End F). HasEnded chances work e) is done.0 in
    subst (λ (xs : List X). IsSomeAnd (slice_get xs index) chances.MayFail) same.0 stopped.fails
fails_by chances (work ∷ works) inputs (end ∷ ended) index same done (suc k, less, is) = fails_by chances works inputs ended index same.1 done.1 (k, omega (arith, less), is)

same_inputs : {X : Type 0} (readers : Readers) (inputs : List X) (jobs from some : ℕ) → AllByRecursion (λ (work : WorkData X). work.inputs ≡ inputs) (works_from inputs jobs readers from some)
same_inputs readers inputs jobs from zero = tt
same_inputs readers inputs jobs from (suc some) = (refl, same_inputs readers inputs jobs (from + 1) some)

-- the least place of an input that can't be read is that of the first such input
pub first_unread : {X F : Type 0} (MayGive : X → Outcome F → Type 0) (MayFail : X → Type 0) (readers : Readers) (inputs : List X) (jobs : ℕ) (ended : List (End F)) (index : ℕ) → 0 < jobs
    → (AllByRecursion IsStarted ended → HaveEnded (chances_of MayGive MayFail) (works_from inputs jobs readers 0 jobs) ended)
    → IsLeastUnread ended index → IsFirstUnread MayGive MayFail inputs index
first_unread {X} MayGive MayFail readers inputs jobs ended index some if_started least =
    let done = if_started (all_started index ended least.0) in (
      fails_by (chances_of MayGive MayFail) (works_from inputs jobs readers 0 jobs) inputs ended index (same_inputs readers inputs jobs 0 jobs) done least.1,
      before_read MayGive inputs index
          (λ place less within. read_at (chances_of MayGive MayFail) readers inputs jobs 0 jobs ended index place (place % jobs) done least.0 (mod_below place jobs some) less within (sym (none_before (place % jobs)))),
    )
  where
    none_before : (k : ℕ) → 0 + k ≡ k
    none_before k = omega arith

-- ---- which fault is returned

-- what holds if the history was filled, and what holds if not
if_filled : (upto parts : ℕ) (test : Bool) → has_filled upto parts ≡ test → (Few : CollectFault → Type 0) → Few collects.Memory → (upto ≡ 2 ^ 64 - 1 → max_entries ≤ parts → Few collects.Full) → Few (if test then collects.Full else collects.Memory)
if_filled upto parts false is Few few many = few
if_filled upto parts true is Few few many = let both = and_parts (upto == 2 ^ 64 - 1) (nat_le max_entries parts) is in many (eqb-true upto (2 ^ 64 - 1) both.0) (leb-true max_entries parts both.1)

-- a fault of the book is never returned as `BadJobs`
pub no_bad_jobs_by : (upto parts : ℕ) (fault : BookFault) → of_refused (has_filled upto parts) fault ≡ collects.BadJobs → ⊥
no_bad_jobs_by upto parts book.Full is = if_filled upto parts (has_filled upto parts) refl (λ (f : CollectFault). f ≡ collects.BadJobs → ⊥) (λ same. cc) (λ last many same. cc) is
no_bad_jobs_by upto parts book.Memory is = cc

-- a refusal may come. `Full` comes only if all workers read all their inputs, so that the history was filled
refused_may_come : {X F : Type 0} (MayGive : X → Outcome F → Type 0) (MayFail : X → Type 0) (readers : Readers) (inputs : List X) (jobs : ℕ) (ended : List (End F)) (refusal : Refusal) (fault : BookFault) → 0 < jobs → length inputs ≤ 2 ^ 64 - 1
    → (AllByRecursion IsStarted ended → HaveEnded (chances_of MayGive MayFail) (works_from inputs jobs readers 0 jobs) ended)
    → AllByRecursion (IsFrom refusal.upto) ended → refusal.parts ≤ sum_by parts_of_end ended → MayCome (FillHistory MayGive inputs) (of_refused (has_filled refusal.upto refusal.parts) fault)
refused_may_come MayGive MayFail readers inputs jobs ended refusal book.Memory some few done from counted = tt
refused_may_come MayGive MayFail readers inputs jobs ended refusal book.Full some few done from counted =
    if_filled refusal.upto refusal.parts (has_filled refusal.upto refusal.parts) refl (MayCome (FillHistory MayGive inputs)) tt
    (λ (last : refusal.upto ≡ 2 ^ 64 - 1) (many : max_entries ≤ refusal.parts).
    filled_though_refused MayGive MayFail readers inputs jobs refusal.upto ended some (omega (arith, last)) (omega (arith, last, few)) done from (omega (arith, many, counted)))

abbrev refusal_in : Refusal → Stop → Refusal
refusal_in other (stops.Unread index) = other
refusal_in other (stops.Refused refusal) = refusal

pub fault_is : {X F : Type 0} (MayGive : X → Outcome F → Type 0) (MayFail : X → Type 0) (readers : Readers) (inputs : List X) (jobs : ℕ) (ended : List (End F)) (stop : Stop) → 0 < jobs → length inputs ≤ 2 ^ 64 - 1
    → (AllByRecursion IsStarted ended → HaveEnded (chances_of MayGive MayFail) (works_from inputs jobs readers 0 jobs) ended)
    → IsWorstEnd ended stop ⊎ (stop ≡ no_memory) → parts_of_stop stop ≤ sum_by parts_of_end ended → IsIntoBookFault MayGive MayFail inputs (of_stop stop)
fault_is MayGive MayFail readers inputs jobs ended (stops.Unread index) some few done (inl least) counted = first_unread MayGive MayFail readers inputs jobs ended index some done least
fault_is MayGive MayFail readers inputs jobs ended (stops.Unread index) some few done (inr is) counted = absurd cc
fault_is MayGive MayFail readers inputs jobs ended (stops.Refused refusal) some few done (inl worst) counted =
    refused_may_come MayGive MayFail readers inputs jobs ended refusal refusal.fault some few done worst.2 counted
fault_is MayGive MayFail readers inputs jobs ended (stops.Refused refusal) some few done (inr is) counted =
    let none : refusal ≡ record { fault = book.Memory; upto = 0; parts = 0 } = ap (refusal_in refusal) is in
    subst (λ (r : Refusal). MayCome (FillHistory MayGive inputs) (of_refused (has_filled r.upto r.parts) r.fault)) (sym none) tt

abbrev collect_in : IntoBookFault → CollectFault
collect_in (into_book.Unread index) = collects.Memory
collect_in (into_book.Collect fault) = fault

pub no_bad_jobs : (stop : Stop) → of_stop stop ≡ into_book.Collect collects.BadJobs → ⊥
no_bad_jobs (stops.Unread index) is = cc
no_bad_jobs (stops.Refused refusal) is = no_bad_jobs_by refusal.upto refusal.parts refusal.fault (ap collect_in is)

-- a fault of collecting into a book tells of an input only if it is the first that can't be read
pub unread_is : {X F : Type 0} (MayGive : X → Outcome F → Type 0) (MayFail : X → Type 0) (inputs : List X) (fault : IntoBookFault) → IsIntoBookFault MayGive MayFail inputs fault → IsUnreadFault MayGive MayFail inputs fault
unread_is MayGive MayFail inputs (into_book.Unread index) is = is
unread_is MayGive MayFail inputs (into_book.Collect fault) is = tt

-- ---- inputs in memory

-- there is no input in memory that can't be read
pub no_unread : {X : Type 0} (inputs : List X) (index : ℕ) → IsSomeAnd (slice_get inputs index) (λ (late : X). ⊥) → ⊥
no_unread [] index is = is
no_unread (late ∷ inputs) zero is = is
no_unread (late ∷ inputs) (suc index) is = no_unread inputs index is

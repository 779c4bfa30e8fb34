-- One step of a worker, and what all workers have done.
use Rattle.std.specs.Prelude.{◌≡◌, ◌⊎◌, ℕ, ◌+◌, ◌<◌, ◌≤◌, Bool, true, false, IsTrue, List, [], ◌∷◌, ◌++◌, length, map, slice_get, IsSomeAnd, IfSome, Option, None, Some, Result, Ok, Err}
use Rattle.std.specs.List.{AllByRecursion, Contains, flat_map}
use Rattle.covdata.specs.Row.{SubmissionData}
use Rattle.covbook.specs.declared.book.BookFault.{BookFault}
use Rattle.covbook.specs.declared.reading.Reading.{Reading}
use Rattle.covbook.specs.Gather.{IsReadingOf, LogData}
use Rattle.covbook.specs.Kept.{IsPrefix}
use Rattle.covbook.specs.Op.{OpData, SubmitOp, EntryData, ReceiptData}
use Rattle.covbook.specs.Step.{IsLegal}
use Rattle.covworkers.specs.declared.refused.RefusedInput.{RefusedInput}
use Rattle.covworkers.specs.declared.readers.Readers.{Readers}
use Rattle.covworkers.specs.declared.readers.Readers.TheVariants as readers
use Rattle.covworkers.specs.declared.stop.Refusal.{Refusal}
use Rattle.covworkers.specs.declared.stop.Stop.{Stop}
use Rattle.covworkers.specs.declared.stop.Stop.TheVariants as stops
use Rattle.covworkers.specs.Collect.{OutcomeData, whole, submitted, refusal, places_of_job, submissions_of, refusals_of, ops_in, HasRead}
use Rattle.covlock.specs.Seat.{SeatData}

-- an input is taken: its submissions are appended to the operations that were asked, and its refusal to the refused inputs, if it
-- is refused. `Gives` says which outcomes the input may have
pub record Takes {F : Type 0} (Gives : OutcomeData F → Type 0) (index : ℕ) (asked asks : List OpData) (refused refuses : List (RefusedInput F)) : Type 0 where
  pub outcome : OutcomeData F
  pub is_outcome : Gives outcome
  pub submits : asks ≡ asked ++ map SubmitOp (submitted outcome)
  pub tells : refuses ≡ refused ++ refusal index outcome

-- the outcomes that an input may still have: those of what is left of it, or only the one with nothing more
abbrev pub GivesLeft : {X F : Type 0} → (Gives : X → OutcomeData F → Type 0) → (left : Option X) → OutcomeData F → Type 0
GivesLeft Gives None = λ outcome. outcome ≡ record { read = []; fault = None }
GivesLeft Gives (Some rest) = Gives rest

-- an outcome with one more submission in front of the others
abbrev pub in_front : {F : Type 0} → SubmissionData → OutcomeData F → OutcomeData F
in_front submission outcome = record { read = submission ∷ outcome.read; fault = outcome.fault }

-- a part of an input is read as a submission or a fault, and this is left of the input: whatever the rest gives, the input may give
-- with the part in front. Nothing is left after a fault
abbrev pub IsPartOf : {X F : Type 0} → (Gives : X → OutcomeData F → Type 0) → (input : X) → (part : Result SubmissionData F) → (left : Option X) → Type 0
IsPartOf Gives input part None = Gives input (whole part)
IsPartOf {X} {F} Gives input (Ok submission) (Some rest) = (outcome : OutcomeData F) → Gives rest outcome → Gives input (in_front submission outcome)
IsPartOf Gives input (Err fault) (Some rest) = ⊥

-- an operation is asked: its receipt is appended to the job's receipts, and `seen` is the place after the receipt's
pub record Asks (receipts after : List ReceiptData) (seen : ℕ) (op : OpData) : Type 0 where
  pub receipt : ReceiptData
  pub behind : after ≡ receipts ++ receipt ∷ []
  pub asked : receipt.op ≡ op
  pub place : receipt.place + 1 ≡ seen

-- there is one more reading, which counts at least the entries of the news. It is right of a legal history that begins with the news
pub record ReadsOnce (news : List EntryData) (readings after : List Reading) : Type 0 where
  pub reading : Reading
  pub behind : after ≡ readings ++ reading ∷ []
  pub least : length news ≤ reading.upto
  pub history : List EntryData
  pub legal : IsLegal history
  pub onward : IsPrefix news history
  pub right : IsReadingOf history reading

-- a job with a reader has one more reading, and a job without a reader has none more
abbrev pub ReadsOn : (has_reader : Bool) → (news : List EntryData) → (readings after : List Reading) → Type 0
ReadsOn true news readings after = ReadsOnce news readings after
ReadsOn false news readings after = after ≡ readings

-- what a worker has: its seat, its receipts, whether it has a reader, what it read of the totals, and which of its inputs are refused
pub record WorkerData (F : Type 0) : Type 0 where
  pub seat : SeatData
  pub receipts : List ReceiptData
  pub has_reader : Bool
  pub readings : List Reading
  pub refused : List (RefusedInput F)

-- these are the receipts of the seat, one for each of its calls
pub record AreReceiptsOf (seat : SeatData) (receipts : List ReceiptData) : Type 0 where
  pub same : receipts ≡ seat.receipts
  pub counted : length receipts ≡ seat.calls

abbrev pub HasReceipts : {F : Type 0} → WorkerData F → Type 0
HasReceipts worker = AreReceiptsOf worker.seat worker.receipts

-- a worker may have a reader; without readers it has none
abbrev pub MayHaveReader : Readers → Bool → Type 0
MayHaveReader readers.ForEachJob has_reader = Unit {0}
MayHaveReader readers.None has_reader = has_reader ≡ false

-- the work of one of `jobs` jobs: its share of the inputs, with a reader or without
pub record WorkData (X : Type 0) : Type 0 where
  pub inputs : List X
  pub jobs : ℕ
  pub job : ℕ
  pub readers : Readers

abbrev pub work_of : {X : Type 0} → (inputs : List X) → (jobs : ℕ) → Readers → SeatData → WorkData X
work_of inputs jobs readers seat = record { inputs = inputs; jobs = jobs; job = seat.job; readers = readers }

-- which outcomes an input may have, and whether it may turn out that it can't be read
pub record Chances (X F : Type 0) : Type 1 where
  pub Gives : X → OutcomeData F → Type 0
  pub MayFail : X → Type 0

-- an input was read: it had an outcome
abbrev pub HasOutcome : {F : Type 0} → (Gives : OutcomeData F → Type 0) → Type 0
HasOutcome {F} Gives = (outcome : OutcomeData F) × Gives outcome

-- an input was read: it had an outcome with at least this number of submissions
abbrev pub HasParts : {F : Type 0} → (Gives : OutcomeData F → Type 0) → (parts : ℕ) → Type 0
HasParts {F} Gives parts = (outcome : OutcomeData F) × Gives outcome × (parts ≤ length outcome.read)

-- 1 if the part is a submission, else 0
abbrev pub one_if_read : {F : Type 0} → Result SubmissionData F → ℕ
one_if_read (Ok submission) = 1
one_if_read (Err fault) = 0

-- a worker has come from `old` to `new` while it read parts of an input, at least `parts` of them as submissions, and this is left of
-- the input. `first` was the first fault of a refused call or list before these parts, and `fault` is the first one after them. As
-- long as there is none, all parts are taken: with an outcome of what is left, the worker takes the input. After a fault the parts
-- are only read: nothing more is asked, and no input is refused
pub record IsReading {X F : Type 0} (chances : Chances X F) (index : ℕ) (input : X) (first : Option BookFault) (old : WorkerData F) (left : Option X) (fault : Option BookFault) (parts : ℕ) (new : WorkerData F) : Type 0 where
  pub outcome : (more : ℕ) → HasParts (GivesLeft chances.Gives left) more → HasParts (chances.Gives input) (parts + more)
  pub fails : IfSome left (λ rest. chances.MayFail rest → chances.MayFail input)
  pub well : fault ≡ None → first ≡ None
  pub kept : IfSome first (λ f. fault ≡ Some f)
  pub idle : IfSome first (λ f. (new.receipts ≡ old.receipts) × (new.refused ≡ old.refused))
  pub taken : fault ≡ None → (asks : List OpData) → (refuses : List (RefusedInput F)) → Takes (GivesLeft chances.Gives left) index (ops_in new.receipts) asks new.refused refuses
      → Takes (chances.Gives input) index (ops_in old.receipts) asks old.refused refuses
  pub read : fault ≡ None → HasRead old.has_reader old.receipts old.readings → HasRead new.has_reader new.receipts new.readings

-- what a job has done with those of the first `count` inputs that are its own: its receipts are those of the submits of what was
-- read, and the inputs that weren't accepted are refused
pub record HasTaken {X F : Type 0} (Gives : X → OutcomeData F → Type 0) (inputs : List X) (jobs job count : ℕ) (receipts : List ReceiptData) (refused : List (RefusedInput F)) : Type 0 where
  pub outcome : ℕ → OutcomeData F
  pub outcomes : (index : ℕ) → index < count → IsTrue (places_of_job jobs job index) → IsSomeAnd (slice_get inputs index) (λ input. Gives input (outcome index))
  pub asked : ops_in receipts ≡ map SubmitOp (submissions_of (places_of_job jobs job) outcome count)
  pub are_refused : refused ≡ refusals_of (places_of_job jobs job) outcome count

-- a job has read all its inputs, with at least this number of submissions: these would be its receipts, and its refused inputs, if
-- nothing had been refused to it
abbrev pub HasReadAll : {X F : Type 0} → (Gives : X → OutcomeData F → Type 0) → (inputs : List X) → (jobs job parts : ℕ) → Type 0
HasReadAll {X} {F} Gives inputs jobs job parts =
    (receipts : List ReceiptData) × (refused : List (RefusedInput F)) × HasTaken Gives inputs jobs job (length inputs) receipts refused × (parts ≤ length receipts)

-- a worker has this job, and has done its work
pub record HasDone {X F : Type 0} (chances : Chances X F) (work : WorkData X) (worker : WorkerData F) : Type 0 where
  pub own : worker.seat.job ≡ work.job
  pub taken : HasTaken chances.Gives work.inputs work.jobs work.job (length work.inputs) worker.receipts worker.refused
  pub read : HasRead worker.has_reader worker.receipts worker.readings
  pub reader : MayHaveReader work.readers worker.has_reader

-- a worker has read its inputs at all places before this one
abbrev pub HasReadBefore : {X F : Type 0} → Chances X F → (inputs : List X) → (jobs job index : ℕ) → Type 0
HasReadBefore chances inputs jobs job index =
    (place : ℕ) → place < index → place < length inputs → IsTrue (places_of_job jobs job place) → IsSomeAnd (slice_get inputs place) (λ input. HasOutcome (chances.Gives input))

-- the input at this place is the worker's own and may fail to be read, and the worker has read its inputs before this place
pub record IsUnreadAt {X F : Type 0} (chances : Chances X F) (inputs : List X) (jobs job index : ℕ) : Type 0 where
  pub own : IsTrue (places_of_job jobs job index)
  pub before : HasReadBefore chances inputs jobs job index
  pub fails : IsSomeAnd (slice_get inputs index) chances.MayFail

-- where a worker stops that was refused something: at one of its own places, or behind all inputs
abbrev pub IsStopPlace : {X : Type 0} → (inputs : List X) → (jobs job place : ℕ) → Type 0
IsStopPlace inputs jobs job place = IsTrue (places_of_job jobs job place) ⊎ (length inputs ≤ place)

-- how a worker ended: it has done its work; or one of its inputs can't be read; or it was refused something. Then it has read its
-- inputs before the place where it stopped nevertheless, and if these are all, it has counted the submissions that it read
abbrev pub HasEnded : {X F : Type 0} → Chances X F → WorkData X → Result (WorkerData F) Stop → Type 0
HasEnded chances work (Ok worker) = HasDone chances work worker
HasEnded chances work (Err (stops.Unread index)) = IsUnreadAt chances work.inputs work.jobs work.job index
HasEnded chances work (Err (stops.Refused refusal)) =
    HasReadBefore chances work.inputs work.jobs work.job refusal.upto × IsStopPlace work.inputs work.jobs work.job refusal.upto
    × (length work.inputs ≤ refusal.upto → HasReadAll chances.Gives work.inputs work.jobs work.job refusal.parts)

-- each worker has done the work at the same place, and both lists have the same length
abbrev pub HaveDone : {X F : Type 0} → Chances X F → List (WorkData X) → List (WorkerData F) → Type 0
HaveDone chances [] [] = Unit {0}
HaveDone chances (work ∷ works) (worker ∷ workers) = HasDone chances work worker × HaveDone chances works workers
HaveDone chances works workers = ⊥

-- each end is that of a worker with the work at the same place, and both lists have the same length
abbrev pub HaveEnded : {X F : Type 0} → Chances X F → List (WorkData X) → List (Result (WorkerData F) Stop) → Type 0
HaveEnded chances [] [] = Unit {0}
HaveEnded chances (work ∷ works) (end ∷ ended) = HasEnded chances work end × HaveEnded chances works ended
HaveEnded chances works ended = ⊥

-- a worker was refused nothing
abbrev pub IsUnrefused : {F : Type 0} → Result (WorkerData F) Stop → Type 0
IsUnrefused (Ok worker) = Unit {0}
IsUnrefused (Err (stops.Unread index)) = Unit {0}
IsUnrefused (Err (stops.Refused refusal)) = ⊥

-- this isn't the end of a worker that couldn't be started, which is a refusal of memory before anything was read. A worker that
-- runs out of memory at place 0 has the same end, but nothing needs to be known of it
abbrev pub IsStarted : {F : Type 0} → Result (WorkerData F) Stop → Type 0
IsStarted (Ok worker) = Unit {0}
IsStarted (Err (stops.Unread index)) = Unit {0}
IsStarted (Err (stops.Refused refusal)) = 0 < refusal.upto

-- if all workers were started, each has ended with the work at its place
abbrev pub HaveEndedIfStarted : {X F : Type 0} → Chances X F → List (WorkData X) → List (Result (WorkerData F) Stop) → Type 0
HaveEndedIfStarted chances works ended = AllByRecursion IsStarted ended → HaveEnded chances works ended

-- the first worker that was refused something has this fault: all before it ended well, or at an input that can't be read
abbrev pub IsFirstFault : {F : Type 0} → List (Result (WorkerData F) Stop) → BookFault → Type 0
IsFirstFault {F} ended fault = (before : List (Result (WorkerData F) Stop)) × (found : Refusal) × (after : List (Result (WorkerData F) Stop))
    × AllByRecursion IsUnrefused before × (ended ≡ before ++ Err (stops.Refused found) ∷ after) × (found.fault ≡ fault)

-- how many submissions a worker read, as far as its end tells
abbrev pub parts_of_end : {F : Type 0} → Result (WorkerData F) Stop → ℕ
parts_of_end (Ok worker) = length worker.receipts
parts_of_end (Err (stops.Unread index)) = 0
parts_of_end (Err (stops.Refused refusal)) = refusal.parts

-- a worker that ended early did so at this place or after it
abbrev pub IsFrom : {F : Type 0} → ℕ → Result (WorkerData F) Stop → Type 0
IsFrom upto (Ok worker) = Unit {0}
IsFrom upto (Err (stops.Unread index)) = upto ≤ index
IsFrom upto (Err (stops.Refused refusal)) = upto ≤ refusal.upto

-- an end that doesn't come before this place: the worker has read its inputs before the place, and if one of its inputs can't be
-- read, this one is at the place or after it
abbrev pub IsNotBefore : {F : Type 0} → ℕ → Result (WorkerData F) Stop → Type 0
IsNotBefore index (Ok worker) = Unit {0}
IsNotBefore index (Err (stops.Unread other)) = index ≤ other
IsNotBefore index (Err (stops.Refused refusal)) = index < refusal.upto

-- this is the place of the first input that can't be read, as far as the workers know: all of them have read their inputs before it
abbrev pub IsLeastUnread : {F : Type 0} → List (Result (WorkerData F) Stop) → ℕ → Type 0
IsLeastUnread ended index = AllByRecursion (IsNotBefore index) ended × Contains ended (Err (stops.Unread index))

-- which end of all workers is returned if not all ended well: the one at the first input that can't be read, if this input is
-- known. Else that of the first worker that was refused something; then no worker ended before this end's place
abbrev pub IsWorstEnd : {F : Type 0} → List (Result (WorkerData F) Stop) → Stop → Type 0
IsWorstEnd ended (stops.Unread index) = IsLeastUnread ended index
IsWorstEnd ended (stops.Refused refusal) =
    IsFirstFault ended refusal.fault × ((index : ℕ) → IsLeastUnread ended index → ⊥) × AllByRecursion (IsFrom refusal.upto) ended

-- how many submissions the workers read, as far as this stop tells
abbrev pub parts_of_stop : Stop → ℕ
parts_of_stop (stops.Unread index) = 0
parts_of_stop (stops.Refused refusal) = refusal.parts

-- what all workers hand in: their seats, their logs, and all that they refused, in the order of the places
abbrev pub log_of : {F : Type 0} → WorkerData F → LogData
log_of worker = record { job = worker.seat.job; receipts = worker.receipts; readings = worker.readings }

abbrev pub seats_in : {F : Type 0} → List (WorkerData F) → List SeatData
seats_in {F} workers = map (λ (w : WorkerData F). w.seat) workers

abbrev pub logs_in : {F : Type 0} → List (WorkerData F) → List LogData
logs_in workers = map log_of workers

abbrev pub refused_in : {F : Type 0} → List (WorkerData F) → List (RefusedInput F)
refused_in {F} workers = flat_map (λ (w : WorkerData F). w.refused) workers

-- the first worker asks an operation and reads nothing, and the others stay as they were. `end` is the number of entries up to
-- that operation's
pub record FirstAsks {F : Type 0} (workers after : List (WorkerData F)) (end : ℕ) (op : OpData) : Type 0 where
  pub first : WorkerData F
  pub next : WorkerData F
  pub others : List (WorkerData F)
  pub old : workers ≡ first ∷ others
  pub new : after ≡ next ∷ others
  pub job : next.seat.job ≡ first.seat.job
  pub asks : Asks first.receipts next.receipts end op
  pub readings : next.readings ≡ first.readings
  pub refused : next.refused ≡ first.refused

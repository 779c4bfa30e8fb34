-- What workers collect. Each input is read, as a whole or in several parts; each job submits what its inputs are read as; and after
-- all submissions there is one last operation (lcov(1), --add-tracefile, for many files at once).
use Rattle.std.specs.Prelude.{◌≡◌, ◌==◌, ℕ, zero, suc, ◌<◌, ◌%◌, if◌then◌else◌, Bool, true, false, List, [], ◌∷◌, ◌++◌, length, map, slice_get, IsSomeAnd, Option, None, Some, Result, Ok, Err}
use Rattle.std.specs.List.{AllByRecursion, range_with_len}
use Rattle.covdata.specs.Row.{SubmissionData}
use Rattle.covbook.specs.declared.reading.Reading.{Reading}
use Rattle.covbook.specs.Op.{OpData, SubmitOp, EntryData, ReceiptData, AreLawfulOps}
use Rattle.covbook.specs.Gather.{LogData, IsMerge, IsGathered}
use Rattle.covbook.specs.Order.{AreAgreeing}
use Rattle.covbook.specs.Step.{IsLegal, table_of, answer_of, ops_in as ops_of}
use Rattle.covbook.specs.Texts.{IsText}
use Rattle.covworkers.specs.declared.refused.RefusedInput.{RefusedInput}

-- what came of an input: the submissions that were read of it, in order; and why the rest of it is refused, if it is
pub record OutcomeData (F : Type 0) : Type 0 where
  pub read : List SubmissionData
  pub fault : Option F

-- the outcome of an input that is read as a whole: the submission that was read, or the fault
abbrev pub whole : {F : Type 0} → Result SubmissionData F → OutcomeData F
whole (Ok submission) = record { read = submission ∷ []; fault = None }
whole (Err fault) = record { read = []; fault = Some fault }

-- an outcome of an input that is read as a whole. `Gives` says what it may be read as, or why it may be refused
abbrev pub IsReadWhole : {F : Type 0} → (Gives : Result SubmissionData F → Type 0) → OutcomeData F → Type 0
IsReadWhole {F} Gives outcome = (result : Result SubmissionData F) × (outcome ≡ whole result) × Gives result

-- `outcome` gives an outcome of each of these inputs, by the input's place. `Gives` says which outcomes an input may have
abbrev pub AreOutcomes : {X O : Type 0} → (Gives : X → O → Type 0) → List X → (ℕ → O) → Type 0
AreOutcomes Gives inputs outcome = (index : ℕ) → index < length inputs → IsSomeAnd (slice_get inputs index) (λ input. Gives input (outcome index))

-- what is submitted for an outcome: the submissions that were read
abbrev pub submitted : {F : Type 0} → OutcomeData F → List SubmissionData
submitted outcome = outcome.read

-- an input's place with its fault, if it has one
abbrev pub refused_for : {F : Type 0} → ℕ → Option F → List (RefusedInput F)
refused_for index None = []
refused_for index (Some fault) = record { index = index; fault = fault } ∷ []

-- what is refused for an outcome: the input's place with its fault, if it has one
abbrev pub refusal : {F : Type 0} → ℕ → OutcomeData F → List (RefusedInput F)
refusal index outcome = refused_for index outcome.fault

-- all that `bring` gives for those of the first `count` places for which `meant` is true, in ascending order of the places
abbrev pub brought : {X : Type 0} → (meant : ℕ → Bool) → (bring : ℕ → List X) → (count : ℕ) → List X
brought meant bring zero = []
brought meant bring (suc count) = brought meant bring count ++ (if meant count then bring count else [])

-- all places are meant
abbrev pub all_places : ℕ → Bool
all_places index = true

-- the places of a job are meant: its number, and every `jobs`-th place after that
abbrev pub places_of_job : (jobs job : ℕ) → ℕ → Bool
places_of_job jobs job index = index % jobs == job

-- the submissions of those of the first `count` inputs whose places are meant
abbrev pub submissions_of : {F : Type 0} → (meant : ℕ → Bool) → (ℕ → OutcomeData F) → (count : ℕ) → List SubmissionData
submissions_of meant outcome count = brought meant (λ index. submitted (outcome index)) count

-- the refusals of those of the first `count` inputs whose places are meant
abbrev pub refusals_of : {F : Type 0} → (meant : ℕ → Bool) → (ℕ → OutcomeData F) → (count : ℕ) → List (RefusedInput F)
refusals_of meant outcome count = brought meant (λ index. refusal index (outcome index)) count

-- what a job asks at the end: job 0 the last operation, any other job nothing
abbrev pub last_of : (last : OpData) → (job : ℕ) → List OpData
last_of last job = if job == 0 then last ∷ [] else []

-- all that a job asks: it submits the submissions of its inputs, and job 0 then asks the last operation
abbrev pub asked_by : {F : Type 0} → (ℕ → OutcomeData F) → (count jobs : ℕ) → (last : OpData) → (job : ℕ) → List OpData
asked_by outcome count jobs last job = map SubmitOp (submissions_of (places_of_job jobs job) outcome count) ++ last_of last job

-- the operations of a log's receipts
abbrev pub ops_in : List ReceiptData → List OpData
ops_in receipts = map (λ (r : ReceiptData). r.op) receipts

-- there is one log for each job from 0 to `jobs - 1`, in order, and each has the operations that its job asks
abbrev pub AreJobLogs : {F : Type 0} → (ℕ → OutcomeData F) → (count jobs : ℕ) → (last : OpData) → List LogData → Type 0
AreJobLogs outcome count jobs last logs =
    (map (λ (log : LogData). log.job) logs ≡ range_with_len 0 jobs)
    × AllByRecursion (λ (log : LogData). ops_in log.receipts ≡ asked_by outcome count jobs last log.job) logs

-- there is one reading for each of these receipts, in order, and each reading counts its receipt's entry
abbrev pub AreReadAfter : List ReceiptData → List Reading → Type 0
AreReadAfter [] [] = Unit {0}
AreReadAfter (receipt ∷ receipts) (reading ∷ readings) = (receipt.place < reading.upto) × AreReadAfter receipts readings
AreReadAfter receipts readings = ⊥

-- the readings of a job with these receipts: one after each receipt, or none at all if the job has no reader
abbrev pub HasRead : (has_reader : Bool) → List ReceiptData → List Reading → Type 0
HasRead true receipts readings = AreReadAfter receipts readings
HasRead false receipts readings = readings ≡ []

-- a log has one reading for each of its submissions, or none at all. The last operation has no reading
pub record HasReadings (last : OpData) (log : LogData) : Type 0 where
  pub has_reader : Bool
  pub submits : List ReceiptData
  pub others : List ReceiptData
  pub receipts : log.receipts ≡ submits ++ others
  pub asked : ops_in others ≡ last_of last log.job
  pub read : HasRead has_reader submits log.readings

-- the last entry is that of the last operation, asked by job 0. If this operation is answered with a text and the submissions
-- agree, its answer is the one after a run over only these submissions, in the order of the inputs. So it doesn't depend on the
-- number of jobs
pub record EndsWith (submissions : List SubmissionData) (last : OpData) (entries : List EntryData) : Type 0 where
  pub before : List EntryData
  pub entry : EntryData
  pub place : entries ≡ before ++ entry ∷ []
  pub asked : entry.op ≡ last
  pub asker : entry.job ≡ 0
  pub text : IsText last → AreAgreeing submissions → entry.answer ≡ answer_of (table_of (map SubmitOp submissions)) last

-- what this number of jobs collects from `count` inputs with these outcomes. The outcomes decide what the jobs ask. Nothing is said
-- about the order in which the jobs take their turns, or about how many entries their readings count, except that a reading after a
-- submit counts its entry. The submissions are lawful, and each reading has the totals after its number of entries
pub record IsCollectedWith {F : Type 0} (outcome : ℕ → OutcomeData F) (count jobs : ℕ) (last : OpData) (entries : List EntryData) (logs : List LogData) (refused : List (RefusedInput F)) : Type 0 where
  pub legal : IsLegal entries
  pub lawful : AreLawfulOps (ops_of entries)
  pub merge : IsMerge entries logs
  pub gathered : IsGathered entries logs
  pub asked : AreJobLogs outcome count jobs last logs
  pub read : AllByRecursion (HasReadings last) logs
  pub are_refused : refused ≡ refusals_of all_places outcome count
  pub ends : EndsWith (submissions_of all_places outcome count) last entries

-- what this number of jobs collects from these inputs: each input has an outcome that it may have, and this is collected with these
-- outcomes
abbrev pub IsCollectedFrom : {X F : Type 0} → (Gives : X → OutcomeData F → Type 0) → (inputs : List X) → (jobs : ℕ) → (last : OpData) → List EntryData → List LogData → List (RefusedInput F) → Type 0
IsCollectedFrom {X} {F} Gives inputs jobs last entries logs refused =
    (outcome : ℕ → OutcomeData F) × AreOutcomes Gives inputs outcome × IsCollectedWith outcome (length inputs) jobs last entries logs refused

-- the same for inputs that are read as a whole. `Gives` says what an input may be read as, or why it may be refused
abbrev pub IsCollectedWhole : {X F : Type 0} → (Gives : X → Result SubmissionData F → Type 0) → (inputs : List X) → (jobs : ℕ) → (last : OpData) → List EntryData → List LogData → List (RefusedInput F) → Type 0
IsCollectedWhole {X} {F} Gives inputs jobs last entries logs refused =
    (outcome : ℕ → Result SubmissionData F) × AreOutcomes Gives inputs outcome × IsCollectedWith (λ index. whole (outcome index)) (length inputs) jobs last entries logs refused

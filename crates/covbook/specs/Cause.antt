-- What each fault of a gathering says: what is wrong at the log, receipt, reading or place that it names, while all that comes
-- before it in the order of faults is right.
use Rattle.std.specs.Prelude.{◌≢◌, ℕ, ◌-◌, ◌<◌, ◌≤◌, ◌⊎◌, List, length, slice_get, take, IsSomeAnd}
use Rattle.std.specs.List.{AllByRecursion, Contains}
use Rattle.covbook.specs.declared.reading.Reading.{Reading}
use Rattle.covbook.specs.Op.{EntryData, ReceiptData}
use Rattle.covbook.specs.Step.{last_totals}
use Rattle.covbook.specs.Gather.{LogData, jobs_of, places_in, Differ, IsOfJob, IsReceiptOf, IsLogOf, IsReadingOf, AreReadingsOf}

-- a log is right: it is of the history, and so are its readings
pub record IsRightLog (entries : List EntryData) (log : LogData) : Type 0 where
  pub receipts : IsLogOf entries log
  pub readings : AreReadingsOf entries log

-- the log with only its first `count` receipts
abbrev pub first_receipts : ℕ → LogData → LogData
first_receipts count log = record log { receipts = take count log.receipts }

-- `SameJob`: an earlier log has the job of this log, and no two earlier logs are of the same job
pub record IsSameJob (logs : List LogData) (number : ℕ) : Type 0 where
  pub before : Differ (jobs_of (take number logs))
  pub wrong : IsSomeAnd (slice_get logs number) (λ (log : LogData). Contains (jobs_of (take number logs)) log.job)

-- no two logs are of the same job, all logs before log `number` are right, and log `number` is wrong as `IsWrong` says
pub record IsFirstWrongLog (entries : List EntryData) (logs : List LogData) (number : ℕ) (IsWrong : LogData → Type 0) : Type 0 where
  pub differ : Differ (jobs_of logs)
  pub before : AllByRecursion (IsRightLog entries) (take number logs)
  pub wrong : IsSomeAnd (slice_get logs number) IsWrong

-- the receipts of a log before receipt `index` are right, and receipt `index` is wrong as `IsWrong` says
pub record IsFirstWrongReceipt (entries : List EntryData) (index : ℕ) (IsWrong : LogData → ReceiptData → Type 0) (log : LogData) : Type 0 where
  pub before : IsLogOf entries (first_receipts index log)
  pub wrong : IsSomeAnd (slice_get log.receipts index) (IsWrong log)

-- `Stranger`: at the receipt's place there is no entry of the log's job
abbrev pub IsStranger : List EntryData → List LogData → (log index : ℕ) → Type 0
IsStranger entries logs number index =
    IsFirstWrongLog entries logs number (IsFirstWrongReceipt entries index (λ (log : LogData) (r : ReceiptData). ¬ IsOfJob entries log.job r))

-- `Differs`: at the receipt's place there is an entry of the log's job, with another operation or answer
abbrev pub IsDiffering : List EntryData → List LogData → (log index : ℕ) → Type 0
IsDiffering entries logs number index =
    IsFirstWrongLog entries logs number (IsFirstWrongReceipt entries index (λ (log : LogData) (r : ReceiptData). IsOfJob entries log.job r × ¬ IsReceiptOf entries r))

-- the place of receipt `index` isn't above the place of the receipt right before it in the log
abbrev pub IsNotAbove : ℕ → LogData → ReceiptData → Type 0
IsNotAbove index log r = (0 < index) × IsSomeAnd (slice_get log.receipts (index - 1)) (λ (before : ReceiptData). r.place ≤ before.place)

-- `Backwards`: the receipt is that of an entry of the log's job, and its place isn't above the place of the receipt right
-- before it in the log
abbrev pub IsBackwards : List EntryData → List LogData → (log index : ℕ) → Type 0
IsBackwards entries logs number index =
    IsFirstWrongLog entries logs number
    (IsFirstWrongReceipt entries index (λ (log : LogData) (r : ReceiptData). IsOfJob entries log.job r × IsReceiptOf entries r × IsNotAbove index log r))

-- a reading counts more entries than there are, or its totals aren't those after its number of entries
abbrev pub IsNoReadingOf : List EntryData → Reading → Type 0
IsNoReadingOf entries r = (length entries < r.upto) ⊎ (r.totals ≢ last_totals (take r.upto entries))

-- the receipts of a log are right, and so are its readings before reading `index`. Reading `index` is wrong
pub record IsFirstWrongReading (entries : List EntryData) (index : ℕ) (log : LogData) : Type 0 where
  pub receipts : IsLogOf entries log
  pub before : AllByRecursion (IsReadingOf entries) (take index log.readings)
  pub wrong : IsSomeAnd (slice_get log.readings index) (IsNoReadingOf entries)

-- `BadReading`: the reading counts more entries than there are, or its totals aren't those after its number of entries
abbrev pub IsBadReading : List EntryData → List LogData → (log index : ℕ) → Type 0
IsBadReading entries logs number index = IsFirstWrongLog entries logs number (IsFirstWrongReading entries index)

-- `Missing`: no two logs are of the same job, and all logs are right. The entry at this place is in no log, and the entry at
-- each lower place is in a log
pub record IsMissing (entries : List EntryData) (logs : List LogData) (place : ℕ) : Type 0 where
  pub differ : Differ (jobs_of logs)
  pub right : AllByRecursion (IsRightLog entries) logs
  pub within : place < length entries
  pub wrong : ¬ Contains (places_in logs) place
  pub before : (lower : ℕ) → lower < place → Contains (places_in logs) lower

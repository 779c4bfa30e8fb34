-- What a job knows of its calls, whatever the book keeps of its history: the job's log is of the history of the job's latest
-- news. Suppose that a history has as many entries as all jobs together have successful calls, that the history of each job's
-- latest news is a beginning of this history, and that the readings in the jobs' logs are of this history. Then this history is
-- gathered from these logs.
use Rattle.std.specs.Prelude.{◌≡◌, ℕ, List, [], ◌∷◌, ◌++◌, length, map}
use Rattle.std.specs.List.{AllByRecursion, sum_by}
use Rattle.covbook.specs.Op.{EntryData, ReceiptData}
use Rattle.covbook.specs.Gather.{LogData, IsLogOf}
pub use mathlib.Core.List.{IsPrefix}

-- a job's log is of the history of the job's latest news, and has a receipt for each of the job's calls. This history has
-- `seen` entries
pub record IsKept (log : LogData) (calls seen : ℕ) (latest : List EntryData) : Type 0 where
  pub log_of : IsLogOf latest log
  pub counted : length log.receipts ≡ calls
  pub upto : length latest ≡ seen

-- the log with one more receipt
abbrev pub with_receipt : LogData → ReceiptData → LogData
with_receipt log receipt = record { job = log.job; receipts = log.receipts ++ receipt ∷ []; readings = log.readings }

-- a job's log, how many of the job's calls succeeded, how many entries the job has seen, and the history of the job's latest
-- news
pub record KeptData : Type 0 where
  pub log : LogData
  pub calls : ℕ
  pub seen : ℕ
  pub latest : List EntryData

abbrev pub IsKeptWell : KeptData → Type 0
IsKeptWell kept = IsKept kept.log kept.calls kept.seen kept.latest

abbrev pub logs_kept : List KeptData → List LogData
logs_kept kept = map (λ (k : KeptData). k.log) kept

-- how many calls of all jobs succeeded
abbrev pub calls_kept : List KeptData → ℕ
calls_kept kept = sum_by (λ (k : KeptData). k.calls) kept

-- the latest news of each job are of a beginning of the history
abbrev pub AreBefore : List EntryData → List KeptData → Type 0
AreBefore entries kept = AllByRecursion (λ (k : KeptData). IsPrefix k.latest entries) kept

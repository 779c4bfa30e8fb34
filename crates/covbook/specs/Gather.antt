-- A history gathered from what each job kept of it: when its entries are a merge of the jobs' logs and all readings are right,
-- and the first fault if they aren't.
use Rattle.std.specs.Prelude.{◌≡◌, ◌≢◌, ℕ, ◌+◌, ◌<◌, ◌≤◌, ◌⊎◌, List, [], ◌∷◌, ◌++◌, length, map, slice_get, take, IsSomeAnd}
use Rattle.std.specs.List.{AllByRecursion, Contains, flat_map}
use Rattle.covbook.specs.declared.gather_fault.GatherFault.{GatherFault}
use Rattle.covbook.specs.declared.gather_fault.GatherFault.TheVariants.{Stranger, Differs, Backwards, Missing, BadReading, SameJob}
use Rattle.covbook.specs.declared.reading.Reading.{Reading}
use Rattle.covbook.specs.Op.{EntryData, ReceiptData}
use Rattle.covbook.specs.Step.{last_totals, receipt_of}

-- a log: the receipts that a job kept, in the order of its calls, and its readings
pub record LogData : Type 0 where
  pub job : ℕ
  pub receipts : List ReceiptData
  pub readings : List Reading

-- the places of a log's receipts
abbrev pub places_of : LogData → List ℕ
places_of log = map (λ (r : ReceiptData). r.place) log.receipts

-- the places of the receipts of all logs
abbrev pub places_in : List LogData → List ℕ
places_in logs = flat_map places_of logs

abbrev pub jobs_of : List LogData → List ℕ
jobs_of logs = map (λ (log : LogData). log.job) logs

-- each number is below all later ones
abbrev pub Rise : List ℕ → Type 0
Rise [] = Unit {0}
Rise (x ∷ xs) = AllByRecursion (λ (y : ℕ). x < y) xs × Rise xs

-- no number comes twice
abbrev pub Differ : List ℕ → Type 0
Differ [] = Unit {0}
Differ (x ∷ xs) = AllByRecursion (λ (y : ℕ). x ≢ y) xs × Differ xs

-- at a receipt's place there is an entry of this job
abbrev pub IsOfJob : List EntryData → ℕ → ReceiptData → Type 0
IsOfJob entries job r = IsSomeAnd (slice_get entries r.place) (λ (e : EntryData). e.job ≡ job)

-- at a receipt's place there is an entry with the receipt's operation and answer
abbrev pub IsReceiptOf : List EntryData → ReceiptData → Type 0
IsReceiptOf entries r = IsSomeAnd (slice_get entries r.place) (λ (e : EntryData). receipt_of r.place e ≡ r)

-- a log is of a history: its places rise, and its receipts are those of entries of its job
pub record IsLogOf (entries : List EntryData) (log : LogData) : Type 0 where
  pub rise : Rise (places_of log)
  pub own : AllByRecursion (IsOfJob entries log.job) log.receipts
  pub same : AllByRecursion (IsReceiptOf entries) log.receipts

-- entries are a merge of logs: no two logs are of the same job, each log is of the history, and each entry is in a log. No
-- entry is in two logs, since each log has only entries of its own job
pub record IsMerge (entries : List EntryData) (logs : List LogData) : Type 0 where
  pub differ : Differ (jobs_of logs)
  pub kept : AllByRecursion (IsLogOf entries) logs
  pub whole : (place : ℕ) → place < length entries → Contains (places_in logs) place

-- a reading is of a history: the reading's totals are those after its first `upto` entries, and the history has that many. The
-- totals after no entries are zeros
pub record IsReadingOf (entries : List EntryData) (r : Reading) : Type 0 where
  pub within : r.upto ≤ length entries
  pub totals : r.totals ≡ last_totals (take r.upto entries)

abbrev pub AreReadingsOf : List EntryData → LogData → Type 0
AreReadingsOf entries log = AllByRecursion (IsReadingOf entries) log.readings

-- a history is gathered from logs: its entries are a merge of them, and each reading of each log is of the history
pub record IsGathered (entries : List EntryData) (logs : List LogData) : Type 0 where
  pub merge : IsMerge entries logs
  pub readings : AllByRecursion (AreReadingsOf entries) logs

-- a claim: what has to hold, and the fault if it doesn't hold
pub record Claim : Type 1 where
  pub holds : Type 0
  pub fault : GatherFault

abbrev pub claim : Type 0 → GatherFault → Claim
claim holds fault = record { holds = holds; fault = fault }

-- all claims hold
abbrev pub AllHold : List {1} Claim → Type 0
AllHold [] = Unit {0}
AllHold (c ∷ claims) = c.holds × AllHold claims

-- some claim doesn't hold, and the first such claim has this fault
abbrev pub FirstFails : List {1} Claim → GatherFault → Type 0
FirstFails [] fault = ⊥
FirstFails (c ∷ claims) fault = ((c.holds → ⊥) × (fault ≡ c.fault)) ⊎ (c.holds × FirstFails claims fault)

-- the claims on the jobs of logs, from this number on: each log's job differs from those of all logs before it
abbrev pub job_claims : (number : ℕ) → List ℕ → List LogData → List {1} Claim
job_claims number before [] = []
job_claims number before (log ∷ logs) =
    claim (AllByRecursion (λ (job : ℕ). job ≢ log.job) before) (SameJob number) ∷ job_claims (number + 1) (before ++ log.job ∷ []) logs

-- the claims on a receipt of a log: an entry of the job is at the receipt's place, this entry has the receipt's operation and
-- answer, and the place is at least `least`. `least` is 0 for the first receipt, and 1 above the place of the receipt before
-- for each later one
abbrev pub claims_of : List EntryData → (job log index least : ℕ) → ReceiptData → List {1} Claim
claims_of entries job log index least r =
    claim (IsOfJob entries job r) (Stranger log index) ∷ claim (IsReceiptOf entries r) (Differs log index) ∷ claim (least ≤ r.place) (Backwards log index) ∷ []

-- the claims on the receipts of a log, from this index on
abbrev pub receipt_claims : List EntryData → (job log index least : ℕ) → List ReceiptData → List {1} Claim
receipt_claims entries job log index least [] = []
receipt_claims entries job log index least (r ∷ receipts) = claims_of entries job log index least r ++ receipt_claims entries job log (index + 1) (r.place + 1) receipts

-- the claims on the readings of a log, from this index on
abbrev pub reading_claims : List EntryData → (log index : ℕ) → List Reading → List {1} Claim
reading_claims entries log index [] = []
reading_claims entries log index (r ∷ readings) = claim (IsReadingOf entries r) (BadReading log index) ∷ reading_claims entries log (index + 1) readings

-- the claims on a log: first those on its receipts, then those on its readings
abbrev pub claims_of_log : List EntryData → (number : ℕ) → LogData → List {1} Claim
claims_of_log entries number log = receipt_claims entries log.job number 0 0 log.receipts ++ reading_claims entries number 0 log.readings

-- the claims on all logs, from this number on
abbrev pub log_claims : List EntryData → (number : ℕ) → List LogData → List {1} Claim
log_claims entries number [] = []
log_claims entries number (log ∷ logs) = claims_of_log entries number log ++ log_claims entries (number + 1) logs

-- each entry, from this place on, is in a log
abbrev pub entry_claims : List LogData → (place : ℕ) → List EntryData → List {1} Claim
entry_claims logs place [] = []
entry_claims logs place (e ∷ entries) = claim (Contains (places_in logs) place) (Missing place) ∷ entry_claims logs (place + 1) entries

-- the claims that make a history gathered from logs if all of them hold, in the order in which they are tested
abbrev pub gather_claims : List EntryData → List LogData → List {1} Claim
gather_claims entries logs = job_claims 0 [] logs ++ log_claims entries 0 logs ++ entry_claims logs 0 entries

-- the fault is that of the first claim on the entries and logs that doesn't hold
abbrev pub IsGatherFault : List EntryData → List LogData → GatherFault → Type 0
IsGatherFault entries logs fault = FirstFails (gather_claims entries logs) fault

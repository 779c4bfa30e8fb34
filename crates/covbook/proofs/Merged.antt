-- All claims on a history and its logs hold exactly if the history is gathered from the logs. A claim is one thing that has to
-- hold, with the fault if it doesn't.
use Rattle.std.proofs.Common.{◌≡◌, ℕ, ◌+◌, ◌<◌, ◌≤◌, List, [], ◌∷◌, ◌++◌, length, map, sym, ap, inl, inr, subst, arith}
use Rattle.std.specs.Prelude.{◌≢◌}
use Rattle.std.specs.List.{AllByRecursion, Contains}
use Rattle.std.proofs.lemmas.Bool.{cases_eq}
use Rattle.covbook.specs.declared.gather_fault.GatherFault.TheVariants.{Missing}
use Rattle.covbook.specs.declared.reading.Reading.{Reading}
use Rattle.covbook.specs.Op.{EntryData, ReceiptData}
use Rattle.covbook.specs.Cause.{IsRightLog}
use Rattle.covbook.specs.Gather.{LogData, jobs_of, places_in, Rise, Differ, IsOfJob, IsReceiptOf, IsLogOf, IsReadingOf, AreReadingsOf, IsGathered, AllHold, FirstFails, job_claims, receipt_claims, reading_claims, claims_of_log, log_claims, entry_claims, gather_claims}
use Rattle.covbook.proofs.Claims.{all_join, all_left, all_right}
use Rattle.covbook.proofs.PlaceCounts.{all_weaker, all_both, all_any, all_joined, all_before, all_after}

-- ---- jobs

abbrev DiffersFrom : List LogData → ℕ → Type 0
DiffersFrom logs job = AllByRecursion (λ (other : ℕ). job ≢ other) (jobs_of logs)

jobs_hold : (number : ℕ) (before : List ℕ) (logs : List LogData) → AllHold (job_claims number before logs) → AllByRecursion (DiffersFrom logs) before × Differ (jobs_of logs)
jobs_hold number before [] h = (all_any (DiffersFrom []) (λ (job : ℕ). tt) before, tt)
jobs_hold number before (log ∷ logs) h =
    let w = jobs_hold (number + 1) (before ++ log.job ∷ []) logs h.1 in (
      all_both (λ (job : ℕ). job ≢ log.job) (DiffersFrom logs) before h.0 (all_before (DiffersFrom logs) before (log.job ∷ []) w.0),
      ((all_after (DiffersFrom logs) before (log.job ∷ []) w.0).0, w.1),
    )

jobs_differ : (number : ℕ) (before : List ℕ) (logs : List LogData) → AllByRecursion (DiffersFrom logs) before → Differ (jobs_of logs) → AllHold (job_claims number before logs)
jobs_differ number before [] a d = tt
jobs_differ number before (log ∷ logs) a d = (
  all_weaker (DiffersFrom (log ∷ logs)) (λ (job : ℕ). job ≢ log.job) (λ (job : ℕ) (h : DiffersFrom (log ∷ logs) job). h.0) before a,
  jobs_differ (number + 1) (before ++ log.job ∷ []) logs
      (all_joined (DiffersFrom logs) before (log.job ∷ []) (all_weaker (DiffersFrom (log ∷ logs)) (DiffersFrom logs) (λ (job : ℕ) (h : DiffersFrom (log ∷ logs) job). h.1) before a) (d.0, tt))
      d.1,
)

-- ---- the receipts of a log

abbrev places : List ReceiptData → List ℕ
places receipts = map (λ (r : ReceiptData). r.place) receipts

-- the receipts from some point on, whose places are at least this one
record AreOf (entries : List EntryData) (job least : ℕ) (receipts : List ReceiptData) : Type 0 where
  low : AllByRecursion (λ (p : ℕ). least ≤ p) (places receipts)
  rise : Rise (places receipts)
  own : AllByRecursion (IsOfJob entries job) receipts
  same : AllByRecursion (IsReceiptOf entries) receipts

receipts_hold : (entries : List EntryData) (job log index least : ℕ) (receipts : List ReceiptData) → AllHold (receipt_claims entries job log index least receipts) → AreOf entries job least receipts
receipts_hold entries job log index least [] h = record { low = tt; rise = tt; own = tt; same = tt }
receipts_hold entries job log index least (r ∷ receipts) h =
    let w = receipts_hold entries job log (index + 1) (r.place + 1) receipts h.1.1.1 in
    record {
      low = (h.1.1.0, all_weaker (λ (p : ℕ). r.place + 1 ≤ p) (λ (p : ℕ). least ≤ p) (λ (p : ℕ) (above : r.place + 1 ≤ p). omega (arith, above, h.1.1.0)) (places receipts) w.low);
      rise = (all_weaker (λ (p : ℕ). r.place + 1 ≤ p) (λ (p : ℕ). r.place < p) (λ (p : ℕ) (above : r.place + 1 ≤ p). omega (arith, above)) (places receipts) w.low, w.rise);
      own = (h.0, w.own);
      same = (h.1.0, w.same);
    }

receipts_are : (entries : List EntryData) (job log index least : ℕ) (receipts : List ReceiptData) → AllByRecursion (λ (p : ℕ). least ≤ p) (places receipts) → Rise (places receipts)
    → AllByRecursion (IsOfJob entries job) receipts → AllByRecursion (IsReceiptOf entries) receipts → AllHold (receipt_claims entries job log index least receipts)
receipts_are entries job log index least [] low rise own same = tt
receipts_are entries job log index least (r ∷ receipts) low rise own same = (
  own.0,
  (
    same.0,
    (
      low.0,
      receipts_are entries job log (index + 1) (r.place + 1) receipts
          (all_weaker (λ (p : ℕ). r.place < p) (λ (p : ℕ). r.place + 1 ≤ p) (λ (p : ℕ) (above : r.place < p). omega (arith, above)) (places receipts) rise.0) rise.1 own.1 same.1,
    ),
  ),
)

-- ---- the readings of a log

pub readings_hold : (entries : List EntryData) (log index : ℕ) (readings : List Reading) → AllHold (reading_claims entries log index readings) → AllByRecursion (IsReadingOf entries) readings
readings_hold entries log index [] h = tt
readings_hold entries log index (r ∷ readings) h = (h.0, readings_hold entries log (index + 1) readings h.1)

pub readings_are : (entries : List EntryData) (log index : ℕ) (readings : List Reading) → AllByRecursion (IsReadingOf entries) readings → AllHold (reading_claims entries log index readings)
readings_are entries log index [] h = tt
readings_are entries log index (r ∷ readings) h = (h.0, readings_are entries log (index + 1) readings h.1)

-- ---- the logs

-- if all claims on the receipts of a log hold, the log is of the history
pub log_of_receipts : (entries : List EntryData) (number : ℕ) (log : LogData) → AllHold (receipt_claims entries log.job number 0 0 log.receipts) → IsLogOf entries log
log_of_receipts entries number log h =
    let w = receipts_hold entries log.job number 0 0 log.receipts h in
    record { rise = w.rise; own = w.own; same = w.same }

pub receipts_of_log : (entries : List EntryData) (number : ℕ) (log : LogData) → IsLogOf entries log → AllHold (receipt_claims entries log.job number 0 0 log.receipts)
receipts_of_log entries number log is =
    receipts_are entries log.job number 0 0 log.receipts (all_any (λ (p : ℕ). 0 ≤ p) (λ (p : ℕ). omega arith) (places log.receipts)) is.rise is.own is.same

pub log_holds : (entries : List EntryData) (number : ℕ) (log : LogData) → AllHold (claims_of_log entries number log) → IsRightLog entries log
log_holds entries number log h =
    let receipts = receipt_claims entries log.job number 0 0 log.receipts in
    let readings = reading_claims entries number 0 log.readings in
    record {
      receipts = log_of_receipts entries number log (all_left receipts readings h);
      readings = readings_hold entries number 0 log.readings (all_right receipts readings h);
    }

pub log_is : (entries : List EntryData) (number : ℕ) (log : LogData) → IsRightLog entries log → AllHold (claims_of_log entries number log)
log_is entries number log is =
    all_join (receipt_claims entries log.job number 0 0 log.receipts) (reading_claims entries number 0 log.readings) (receipts_of_log entries number log is.receipts)
    (readings_are entries number 0 log.readings is.readings)

pub logs_right : (entries : List EntryData) (number : ℕ) (logs : List LogData) → AllHold (log_claims entries number logs) → AllByRecursion (IsRightLog entries) logs
logs_right entries number [] h = tt
logs_right entries number (log ∷ logs) h =
    let claims = claims_of_log entries number log in (
      log_holds entries number log (all_left claims (log_claims entries (number + 1) logs) h),
      logs_right entries (number + 1) logs (all_right claims (log_claims entries (number + 1) logs) h),
    )

pub logs_are : (entries : List EntryData) (number : ℕ) (logs : List LogData) → AllByRecursion (IsRightLog entries) logs → AllHold (log_claims entries number logs)
logs_are entries number [] h = tt
logs_are entries number (log ∷ logs) h =
    all_join (claims_of_log entries number log) (log_claims entries (number + 1) logs) (log_is entries number log h.0) (logs_are entries (number + 1) logs h.1)

pub logs_hold : (entries : List EntryData) (number : ℕ) (logs : List LogData) → AllHold (log_claims entries number logs) → AllByRecursion (IsLogOf entries) logs
logs_hold entries number logs h = all_weaker (IsRightLog entries) (IsLogOf entries) (λ (log : LogData) (is : IsRightLog entries log). is.receipts) logs (logs_right entries number logs h)

both_right : (entries : List EntryData) (logs : List LogData) → AllByRecursion (IsLogOf entries) logs → AllByRecursion (AreReadingsOf entries) logs → AllByRecursion (IsRightLog entries) logs
both_right entries logs kept readings =
    all_weaker (λ (log : LogData). IsLogOf entries log × AreReadingsOf entries log) (IsRightLog entries)
    (λ (log : LogData) (is : IsLogOf entries log × AreReadingsOf entries log). record { receipts = is.0; readings = is.1 }) logs (all_both (IsLogOf entries) (AreReadingsOf entries) logs kept readings)

-- ---- the entries

pub later : (start place : ℕ) → start ≤ place → (start ≡ place → ⊥) → start + 1 ≤ place
later start place low other = grind (arith, low, other)

entries_hold : (logs : List LogData) (start : ℕ) (entries : List EntryData) → AllHold (entry_claims logs start entries) → (place : ℕ) → start ≤ place → place < start + length entries → Contains (places_in logs) place
entries_hold logs start [] h place low high = absurd (omega (arith, low, high))
entries_hold logs start (e ∷ entries) h place low high = elim (cases_eq start place) [
  | inl is ↦ subst (Contains (places_in logs)) is h.0
  | inr other ↦ entries_hold logs (start + 1) entries h.1 place (later start place low other) (omega (arith, high))
]

pub entries_are : (logs : List LogData) (start : ℕ) (entries : List EntryData) → ((place : ℕ) → start ≤ place → place < start + length entries → Contains (places_in logs) place) → AllHold (entry_claims logs start entries)
entries_are logs start [] h = tt
entries_are logs start (e ∷ entries) h =
    (h start (omega arith) (omega arith), entries_are logs (start + 1) entries (λ place low high. h place (omega (arith, low)) (omega (arith, high))))

-- if this is the least place that is in no log, it is the one of the first fault
pub entries_miss : (logs : List LogData) (start : ℕ) (entries : List EntryData) (place : ℕ) → start ≤ place → place < start + length entries → (Contains (places_in logs) place → ⊥)
    → ((p : ℕ) → start ≤ p → p < place → Contains (places_in logs) p) → FirstFails (entry_claims logs start entries) (Missing place)
entries_miss logs start [] place low high missing told = absurd (omega (arith, low, high))
entries_miss logs start (e ∷ entries) place low high missing told = elim (cases_eq start place) [
  | inl is ↦ inl ((λ (there : Contains (places_in logs) start). missing (subst (Contains (places_in logs)) is there)), ap (λ (p : ℕ). Missing p) (sym is))
  | inr other ↦ let above : start + 1 ≤ place = later start place low other in
      inr (told start (omega arith) (omega (arith, above)), entries_miss logs (start + 1) entries place above (omega (arith, high)) missing (λ p at_least under. told p (omega (arith, at_least)) under))
]

-- ---- all of them

pub gathered_from : (entries : List EntryData) (logs : List LogData) → AllHold (gather_claims entries logs) → IsGathered entries logs
gathered_from entries logs h =
    let jobs = job_claims 0 [] logs in
    let kept = log_claims entries 0 logs in
    let all = entry_claims logs 0 entries in
    let both = all_left (jobs ++ kept) all h in
    let right = logs_right entries 0 logs (all_right jobs kept both) in
    record {
      merge = record {
        differ = (jobs_hold 0 [] logs (all_left jobs kept both)).1;
        kept = logs_hold entries 0 logs (all_right jobs kept both);
        whole = λ place high. entries_hold logs 0 entries (all_right (jobs ++ kept) all h) place (omega arith) (omega (arith, high));
      };
      readings = all_weaker (IsRightLog entries) (AreReadingsOf entries) (λ (log : LogData) (is : IsRightLog entries log). is.readings) logs right;
    }

pub gathered_holds : (entries : List EntryData) (logs : List LogData) → IsGathered entries logs → AllHold (gather_claims entries logs)
gathered_holds entries logs g =
    let jobs = job_claims 0 [] logs in
    let kept = log_claims entries 0 logs in
    let m = g.merge in
    all_join (jobs ++ kept) (entry_claims logs 0 entries) (all_join jobs kept (jobs_differ 0 [] logs tt m.differ) (logs_are entries 0 logs (both_right entries logs m.kept g.readings)))
    (entries_are logs 0 entries (λ place low high. m.whole place (omega (arith, high))))

pub jobs_from : (logs : List LogData) → AllHold (job_claims 0 [] logs) → Differ (jobs_of logs)
jobs_from logs h = (jobs_hold 0 [] logs h).1

pub jobs_to : (logs : List LogData) → Differ (jobs_of logs) → AllHold (job_claims 0 [] logs)
jobs_to logs differ = jobs_differ 0 [] logs tt differ

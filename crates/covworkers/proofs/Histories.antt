-- If logs have each place of a history once, they submit what the history's entries submit.
use Rattle.std.proofs.Common.{◌≡◌, ◌∙◌, ℕ, zero, suc, ◌+◌, List, [], ◌∷◌, ◌++◌, length, map, Option, Some, None, slice_get, ap, sym, refl, subst, arith}
use Rattle.std.specs.Prelude.{IsSomeAnd}
use Rattle.std.proofs.lemmas.List.Concat.{flat_map-append}
use Rattle.std.specs.List.{AllByRecursion, range_with_len, flat_map}
use Rattle.std.specs.List.Sorted.{IsPermutation}
use Rattle.covdata.specs.Row.{SubmissionData}
use Rattle.covbook.specs.Gather.{LogData, places_in, places_of, IsReceiptOf, IsLogOf}
use Rattle.covbook.specs.Op.{EntryData, ReceiptData}
use Rattle.covbook.specs.Order.{submission_of, submissions_in}
use Rattle.covbook.specs.Step.{receipt_of}
use Rattle.covworkers.specs.Collect.{brought, all_places, ops_in}
use Rattle.covworkers.proofs.Gathered.{brought_by_range}
use Rattle.covworkers.proofs.Places.{AreBelow, all_below_bring}

-- what an entry submits; nothing if there is no entry
abbrev pub submits_there : Option EntryData → List SubmissionData
submits_there None = []
submits_there (Some e) = submission_of e.op

abbrev pub submits_at : List EntryData → ℕ → List SubmissionData
submits_at entries place = submits_there (slice_get entries place)

receipt_submits : (found : Option EntryData) (r : ReceiptData) → IsSomeAnd found (λ (e : EntryData). receipt_of r.place e ≡ r) → submits_there found ≡ submission_of r.op
receipt_submits None r is = absurd is
receipt_submits (Some e) r is = ap (λ (r : ReceiptData). submission_of r.op) is

receipts_submit : (entries : List EntryData) (receipts : List ReceiptData) → AllByRecursion (IsReceiptOf entries) receipts
    → flat_map (submits_at entries) (map (λ (r : ReceiptData). r.place) receipts) ≡ submissions_in (ops_in receipts)
receipts_submit entries [] are = refl
receipts_submit entries (r ∷ receipts) are =
    ap (λ (ss : List SubmissionData). ss ++ flat_map (submits_at entries) (map (λ (r : ReceiptData). r.place) receipts)) (receipt_submits (slice_get entries r.place) r are.0)
    ∙ ap (λ (ss : List SubmissionData). submission_of r.op ++ ss) (receipts_submit entries receipts are.1)

-- two lists of submissions are the same: those of the entries at the receipts' places, log by log, and those of the receipts'
-- own operations
pub logs_submit : (entries : List EntryData) (logs : List LogData) → AllByRecursion (IsLogOf entries) logs
    → flat_map (submits_at entries) (places_in logs) ≡ flat_map (λ (log : LogData). submissions_in (ops_in log.receipts)) logs
logs_submit entries [] are = refl
logs_submit entries (log ∷ logs) are =
    flat_map-append (submits_at entries) (places_of log) (places_in logs)
    ∙ ap (λ (ss : List SubmissionData). ss ++ flat_map (submits_at entries) (places_in logs)) (receipts_submit entries log.receipts are.0.same)
    ∙ ap (λ (ss : List SubmissionData). submissions_in (ops_in log.receipts) ++ ss) (logs_submit entries logs are.1)

shifted : {X : Type 0} (f : ℕ → List X) (from count : ℕ) → flat_map f (range_with_len (suc from) count) ≡ flat_map (λ (k : ℕ). f (suc k)) (range_with_len from count)
shifted f from zero = refl
shifted {X} f from (suc count) =
    ap (λ (n : ℕ). f (suc from) ++ flat_map f (range_with_len n count)) (one_more from)
    ∙ ap (λ (xs : List X). f (suc from) ++ xs) (shifted f (from + 1) count)
  where
    one_more : (from : ℕ) → suc from + 1 ≡ suc (from + 1)
    one_more from = omega arith

entries_in_order : (entries : List EntryData) → flat_map (submits_at entries) (range_with_len 0 (length entries)) ≡ submissions_in (map (λ (e : EntryData). e.op) entries)
entries_in_order [] = refl
entries_in_order (e ∷ entries) =
    ap (λ (n : ℕ). submission_of e.op ++ flat_map (submits_at (e ∷ entries)) (range_with_len n (length entries))) first
    ∙ ap (λ (ss : List SubmissionData). submission_of e.op ++ ss) (shifted (submits_at (e ∷ entries)) 0 (length entries) ∙ entries_in_order entries)
  where
    first : 0 + 1 ≡ suc 0
    first = omega arith

-- if the logs have each place once, the entries submit what the logs submit, in another order
pub same_submitted : (entries : List EntryData) (logs : List LogData) → AllByRecursion (IsLogOf entries) logs → AreBelow (length entries) (places_in logs)
    → IsPermutation (flat_map (λ (log : LogData). submissions_in (ops_in log.receipts)) logs) (submissions_in (map (λ (e : EntryData). e.op) entries))
same_submitted entries logs are once =
    let told = flat_map (λ (log : LogData). submissions_in (ops_in log.receipts)) logs in
    subst (λ (ss : List SubmissionData). IsPermutation told ss) (sym (brought_by_range (submits_at entries) (length entries)) ∙ entries_in_order entries)
    (subst (λ (ss : List SubmissionData). IsPermutation ss (brought all_places (submits_at entries) (length entries))) (logs_submit entries logs are)
    (all_below_bring (submits_at entries) (length entries) (places_in logs) once))

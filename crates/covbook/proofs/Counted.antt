-- A history is gathered, by counting: each receipt is of an entry at its place, no place comes twice, and there are as many receipts
-- as entries.
use Rattle.std.proofs.Common.{◌≡◌, ◌∙◌, ℕ, zero, suc, ◌+◌, ◌<◌, ◌≤◌, Bool, cond, List, [], ◌∷◌, ◌++◌, length, ap, sym, refl, subst, arith}
use Rattle.std.specs.Prelude.{◌≢◌, slice_get, IsSomeAnd}
use Rattle.std.specs.List.{AllByRecursion, range_with_len}
use Rattle.std.proofs.lemmas.Bool.{lt-ltb}
use Rattle.std.proofs.lemmas.List.{length-append, length-map, map-append}
use Rattle.std.proofs.lemmas.List.Sums.{sum_by-cons}
use Rattle.covbook.specs.Op.{EntryData, ReceiptData}
use Rattle.covbook.specs.Step.{receipt_of}
use Rattle.covbook.specs.Gather.{LogData, jobs_of, places_of, places_in, Rise, Differ, IsOfJob, IsReceiptOf, IsLogOf, IsMerge, AreReadingsOf, IsGathered}
use Rattle.covbook.specs.GatherSteps.{below}
use Rattle.covbook.specs.Kept.{IsPrefix, IsKept, KeptData, IsKeptWell, AreBefore, with_receipt, logs_kept, calls_kept}
use Rattle.covbook.proofs.PlaceCounts.{all_weaker, all_joined, all_mapped, all_told}
use Rattle.covbook.proofs.Once.{told_once}

-- ---- an element of a history that goes on

at_longer : {X : Type 0} (P : X → Type 0) (xs ys : List X) (i : ℕ) → IsSomeAnd (slice_get xs i) P → IsSomeAnd (slice_get (xs ++ ys) i) P
at_longer P [] ys i h = absurd h
at_longer P (x ∷ xs) ys zero h = h
at_longer P (x ∷ xs) ys (suc i) h = at_longer P xs ys i h

at_last : {X : Type 0} (P : X → Type 0) (xs : List X) (x : X) → P x → IsSomeAnd (slice_get (xs ++ x ∷ []) (length xs)) P
at_last P [] x h = h
at_last P (y ∷ xs) x h = at_last P xs x h

at_within : {X : Type 0} (P : X → Type 0) (xs : List X) (i : ℕ) → IsSomeAnd (slice_get xs i) P → i < length xs
at_within P [] i h = absurd h
at_within P (x ∷ xs) zero h = omega arith
at_within P (x ∷ xs) (suc i) h = let less = at_within P xs i h in omega (arith, less)

at_after : {X : Type 0} (P : X → Type 0) (before after : List X) (i : ℕ) → IsPrefix before after → IsSomeAnd (slice_get before i) P → IsSomeAnd (slice_get after i) P
at_after {X} P before after i prefix h = subst (λ (xs : List X). IsSomeAnd (slice_get xs i) P) prefix.1 (at_longer P before prefix.0 i h)

-- the log of a history is one of each history that begins with it
pub log_after : (before after : List EntryData) (log : LogData) → IsPrefix before after → IsLogOf before log → IsLogOf after log
log_after before after log prefix is = record {
  rise = is.rise;
  own = all_weaker (IsOfJob before log.job) (IsOfJob after log.job) (λ (r : ReceiptData) (h : IsOfJob before log.job r). at_after (λ (e : EntryData). e.job ≡ log.job) before after r.place prefix h) log.receipts is.own;
  same = all_weaker (IsReceiptOf before) (IsReceiptOf after) (λ (r : ReceiptData) (h : IsReceiptOf before r). at_after (λ (e : EntryData). receipt_of r.place e ≡ r) before after r.place prefix h) log.receipts is.same;
}

-- the places of a log are those of entries
pub places_within : (entries : List EntryData) (log : LogData) → IsLogOf entries log → AllByRecursion (λ (p : ℕ). p < length entries) (places_of log)
places_within entries log is =
    all_mapped (λ (p : ℕ). p < length entries) (λ (r : ReceiptData). r.place) log.receipts
    (all_weaker (IsOfJob entries log.job) (λ (r : ReceiptData). r.place < length entries) (λ (r : ReceiptData) (h : IsOfJob entries log.job r). at_within (λ (e : EntryData). e.job ≡ log.job) entries r.place h) log.receipts is.own)

-- ---- one more call

rise_last : (xs : List ℕ) (x : ℕ) → Rise xs → AllByRecursion (λ (y : ℕ). y < x) xs → Rise (xs ++ x ∷ [])
rise_last [] x r b = (tt, tt)
rise_last (y ∷ xs) x r b = (all_joined (λ (z : ℕ). y < z) xs (x ∷ []) r.0 (b.0, tt), rise_last xs x r.1 b.1)

-- at the receipt's place there is the last entry
placed : (before : List EntryData) (entry : EntryData) (place : ℕ) (P : EntryData → Type 0) → length before ≡ place → P entry → IsSomeAnd (slice_get (before ++ entry ∷ []) place) P
placed before entry place P here h = subst (λ (n : ℕ). IsSomeAnd (slice_get (before ++ entry ∷ []) n) P) here (at_last P before entry h)

pub one_more : (log : LogData) (calls seen : ℕ) (latest before : List EntryData) (entry : EntryData) (told : ReceiptData)
    → IsKept log calls seen latest → entry.job ≡ log.job → receipt_of told.place entry ≡ told → length before ≡ told.place
    → seen ≤ told.place → IsPrefix latest (before ++ entry ∷ [])
    → IsKept (with_receipt log told) (calls + 1) (told.place + 1) (before ++ entry ∷ [])
one_more log calls seen latest before entry told kept own same here later prefix =
    let news : List EntryData = before ++ entry ∷ [] in
    let so_far : IsLogOf news log = log_after latest news log prefix kept.log_of in
    let within = places_within latest log kept.log_of in
    let less : AllByRecursion (λ (p : ℕ). p < told.place) (places_of log) =
    all_weaker (λ (p : ℕ). p < length latest) (λ (p : ℕ). p < told.place) (λ (p : ℕ) (h : p < length latest). omega (arith, h, kept.upto, later)) (places_of log) within in
    let longer : length (log.receipts ++ told ∷ []) ≡ length log.receipts + 1 = length-append log.receipts (told ∷ []) in
    let long : length news ≡ length before + 1 = length-append before (entry ∷ []) in
    record {
      log_of = record {
        rise = subst (λ (ps : List ℕ). Rise ps) (sym (map-append (λ (r : ReceiptData). r.place) log.receipts (told ∷ []))) (rise_last (places_of log) told.place kept.log_of.rise less);
        own = all_joined (IsOfJob news log.job) log.receipts (told ∷ []) so_far.own (placed before entry told.place (λ (e : EntryData). e.job ≡ log.job) here own, tt);
        same = all_joined (IsReceiptOf news) log.receipts (told ∷ []) so_far.same (placed before entry told.place (λ (e : EntryData). receipt_of told.place e ≡ told) here same, tt);
      };
      counted = omega (arith, longer, kept.counted);
      upto = omega (arith, long, here);
    }

-- ---- the whole history

all_below : (n : ℕ) (xs : List ℕ) → AllByRecursion (λ (x : ℕ). x < n) xs → below n xs ≡ length xs
all_below n [] a = refl
all_below n (x ∷ xs) a =
    let here : below n (x ∷ xs) ≡ 1 + below n xs = ap (λ (t : Bool). cond t 1 0 + below n xs) (lt-ltb x n a.0) in
    let rest : below n xs ≡ length xs = all_below n xs a.1 in
    let long : length (x ∷ xs) ≡ suc (length xs) = refl in
    omega (arith, here, rest, long)

all_places_within : (entries : List EntryData) (logs : List LogData) → AllByRecursion (IsLogOf entries) logs → AllByRecursion (λ (p : ℕ). p < length entries) (places_in logs)
all_places_within entries [] kept = tt
all_places_within entries (log ∷ logs) kept =
    all_joined (λ (p : ℕ). p < length entries) (places_of log) (places_in logs) (places_within entries log kept.0) (all_places_within entries logs kept.1)

-- logs of different jobs, with as many receipts as there are entries, have each entry, since no two receipts have one place
pub merge_by_count : (entries : List EntryData) (logs : List LogData) → Differ (jobs_of logs) → AllByRecursion (IsLogOf entries) logs → length (places_in logs) ≡ length entries → IsMerge entries logs
merge_by_count entries logs differ kept count = record {
  differ = differ;
  kept = kept;
  whole = λ place less.
      all_told (places_in logs) (told_once entries logs differ kept) (length entries) (all_below (length entries) (places_in logs) (all_places_within entries logs kept) ∙ count) place less;
}

-- ---- the jobs from 0 on

range_above : (low from count : ℕ) → low < from → AllByRecursion (λ (y : ℕ). low ≢ y) (range_with_len from count)
range_above low from zero h = tt
range_above low from (suc count) h = ((λ (e : low ≡ from). omega (arith, e, h)), range_above low (from + 1) count (omega (arith, h)))

range_differs : (from count : ℕ) → Differ (range_with_len from count)
range_differs from zero = tt
range_differs from (suc count) = (range_above from (from + 1) count (omega arith), range_differs (from + 1) count)

logs_are_of : (entries : List EntryData) (kept : List KeptData) → AllByRecursion IsKeptWell kept → AreBefore entries kept → AllByRecursion (IsLogOf entries) (logs_kept kept)
logs_are_of entries [] well before = tt
logs_are_of entries (k ∷ kept) well before = (log_after k.latest entries k.log before.0 well.0.log_of, logs_are_of entries kept well.1 before.1)

places_count : (kept : List KeptData) → AllByRecursion IsKeptWell kept → length (places_in (logs_kept kept)) ≡ calls_kept kept
places_count [] well = refl
places_count (k ∷ kept) well =
    let parts : length (places_in (logs_kept (k ∷ kept))) ≡ length (places_of k.log) + length (places_in (logs_kept kept)) = length-append (places_of k.log) (places_in (logs_kept kept)) in
    let here : length (places_of k.log) ≡ length k.log.receipts = length-map k.log.receipts (λ (r : ReceiptData). r.place) in
    let sum : calls_kept (k ∷ kept) ≡ k.calls + calls_kept kept = sum_by-cons (λ (j : KeptData). j.calls) k kept in
    let rest : length (places_in (logs_kept kept)) ≡ calls_kept kept = places_count kept well.1 in
    omega (arith, parts, here, well.0.counted, sum, rest)

pub gathered_by_count : (entries : List EntryData) (jobs : ℕ) (kept : List KeptData) → jobs_of (logs_kept kept) ≡ range_with_len 0 jobs → AllByRecursion IsKeptWell kept
    → AllByRecursion (AreReadingsOf entries) (logs_kept kept) → AreBefore entries kept → length entries ≡ calls_kept kept → IsGathered entries (logs_kept kept)
gathered_by_count entries jobs kept are well read before count = record {
  merge =
      merge_by_count entries (logs_kept kept) (subst (λ (js : List ℕ). Differ js) (sym are) (range_differs 0 jobs)) (logs_are_of entries kept well before)
      (places_count kept well ∙ sym count);
  readings = read;
}

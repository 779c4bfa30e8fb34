-- The first claim that doesn't hold: what is wrong there, and that all before it is right.
use Rattle.std.proofs.Common.{◌≡◌, ℕ, zero, suc, ◌+◌, ◌-◌, ◌<◌, ◌≤◌, List, [], ◌∷◌, ◌++◌, Option, Some, None, length, take, sym, refl, ap, ◌∙◌, inl, inr, subst, arith}
use Rattle.std.specs.Prelude.{◌≢◌, ◌⊎◌, slice_get, IsSomeAnd}
use Rattle.std.specs.List.{AllByRecursion, Contains}
use Rattle.std.proofs.lemmas.Bool.{cases_eq, cases_order}
use Rattle.std.proofs.lemmas.List.{append_assoc, append-nil}
use Rattle.covbook.specs.declared.gather_fault.GatherFault.{GatherFault}
use Rattle.covbook.specs.declared.gather_fault.GatherFault.TheVariants.{Backwards, BadReading, Differs, Missing, SameJob, Stranger}
use Rattle.covbook.specs.declared.reading.Reading.{Reading}
use Rattle.covbook.specs.Op.{EntryData, ReceiptData}
use Rattle.covbook.specs.Cause.{IsRightLog, IsSameJob, IsFirstWrongLog, IsFirstWrongReceipt, IsFirstWrongReading, IsStranger, IsDiffering, IsNotAbove, IsBackwards, IsNoReadingOf, IsBadReading, IsMissing, first_receipts}
use Rattle.covbook.specs.Gather.{LogData, jobs_of, places_in, Differ, IsOfJob, IsReceiptOf, IsLogOf, IsReadingOf, IsMerge, Claim, AllHold, FirstFails, IsGatherFault, claims_of, claims_of_log, job_claims, receipt_claims, reading_claims, log_claims, entry_claims}
use Rattle.covbook.proofs.Checked.{no_some, some_is}
use Rattle.covbook.proofs.Claims.{all_join, all_left, all_right, first_left, first_right, none_fails}
use Rattle.covbook.proofs.Gathered.{job_told, log_told}
use Rattle.covbook.proofs.Merged.{entries_are, entries_miss, jobs_from, jobs_to, later, log_holds, log_is, log_of_receipts, logs_are, logs_right, receipts_of_log}
use Rattle.covbook.proofs.PlaceCounts.{In, In-all, In-from, Contains-from}

-- ---- claims in two parts, and what is at a place

first_parts : (xs ys : List {1} Claim) (f : GatherFault) → FirstFails (xs ++ ys) f → FirstFails xs f ⊎ (AllHold xs × FirstFails ys f)
first_parts [] ys f h = inr (tt, h)
first_parts (c ∷ xs) ys f (inl h) = inl (inl h)
first_parts (c ∷ xs) ys f (inr h) = elim (first_parts xs ys f h.1) [ inl a ↦ inl (inr (h.0, a)) | inr b ↦ inr ((h.0, b.0), b.1) ]

some_map : {X : Type 0} (o : Option X) (P Q : X → Type 0) → ((x : X) → P x → Q x) → IsSomeAnd o P → IsSomeAnd o Q
some_map None P Q f h = absurd h
some_map (Some x) P Q f h = f x h

-- if there is an element after the first one, there is one before it
earlier : {X : Type 0} (xs : List X) (i : ℕ) (x : X) → slice_get xs (suc i) ≡ Some x → (b : X) × (slice_get xs i ≡ Some b)
earlier [] i x at = absurd (no_some x at)
earlier (y ∷ ys) zero x at = (y, refl)
earlier (y ∷ ys) (suc i) x at = earlier ys i x at

-- ---- jobs

abbrev IsSeen : List ℕ → LogData → Type 0
IsSeen before log = AllByRecursion (λ (job : ℕ). job ≢ log.job) before → ⊥

seen_in : (xs : List ℕ) (x : ℕ) → (AllByRecursion (λ (y : ℕ). y ≢ x) xs → ⊥) → In x xs
seen_in [] x h = absurd (h tt)
seen_in (y ∷ ys) x h = elim (cases_eq y x) [ inl e ↦ inl e | inr other ↦ inr (seen_in ys x (λ all. h (other, all))) ]

in_seen : (xs : List ℕ) (x : ℕ) → Contains xs x → AllByRecursion (λ (y : ℕ). y ≢ x) xs → ⊥
in_seen xs x there all = In-all (λ (y : ℕ). y ≢ x) xs x all (In-from xs x there) refl

-- the first log whose job is seen before it
record FirstSeen (number : ℕ) (before : List ℕ) (logs : List LogData) (f : GatherFault) : Type 0 where
  k : ℕ
  told : f ≡ SameJob (number + k)
  hold : AllHold (job_claims number before (take k logs))
  seen : IsSomeAnd (slice_get logs k) (IsSeen (before ++ jobs_of (take k logs)))

first_seen : (number : ℕ) (before : List ℕ) (logs : List LogData) (f : GatherFault) → FirstFails (job_claims number before logs) f → FirstSeen number before logs f
first_seen number before [] f h = absurd h
first_seen number before (log ∷ logs) f (inl h) =
    let here : number ≡ number + 0 = omega arith in
    record { k = 0; told = h.1 ∙ ap (λ (n : ℕ). SameJob n) here; hold = tt; seen = subst (λ (jobs : List ℕ). IsSeen jobs log) (sym (append-nil before)) h.0 }
first_seen number before (log ∷ logs) f (inr h) =
    let w = first_seen (number + 1) (before ++ log.job ∷ []) logs f h.1 in
    let on : number + 1 + w.k ≡ number + suc w.k = omega arith in
    record {
      k = suc w.k;
      told = w.told ∙ ap (λ (n : ℕ). SameJob n) on;
      hold = (h.0, w.hold);
      seen = subst (λ (jobs : List ℕ). IsSomeAnd (slice_get logs w.k) (IsSeen jobs)) (append_assoc before (log.job ∷ []) (jobs_of (take w.k logs))) w.seen;
    }

seen_fails : (number : ℕ) (before : List ℕ) (logs : List LogData) (k : ℕ) → AllHold (job_claims number before (take k logs))
    → IsSomeAnd (slice_get logs k) (IsSeen (before ++ jobs_of (take k logs))) → FirstFails (job_claims number before logs) (SameJob (number + k))
seen_fails number before [] k hold seen = absurd seen
seen_fails number before (log ∷ logs) zero hold seen =
    let here : number + 0 ≡ number = omega arith in
    inl (subst (λ (jobs : List ℕ). IsSeen jobs log) (append-nil before) seen, ap (λ (n : ℕ). SameJob n) here)
seen_fails number before (log ∷ logs) (suc k) hold seen =
    let on : number + 1 + k ≡ number + suc k = omega arith in
    inr (
      hold.0,
      subst (λ (n : ℕ). FirstFails (job_claims (number + 1) (before ++ log.job ∷ []) logs) (SameJob n)) on
          (seen_fails (number + 1) (before ++ log.job ∷ []) logs k hold.1
          (subst (λ (jobs : List ℕ). IsSomeAnd (slice_get logs k) (IsSeen jobs)) (sym (append_assoc before (log.job ∷ []) (jobs_of (take k logs)))) seen)),
    )

-- ---- the receipts of a log

-- the least place that a receipt after these may have
abbrev least_after : ℕ → List ReceiptData → ℕ
least_after least [] = least
least_after least (r ∷ receipts) = least_after (r.place + 1) receipts

least_is : (least : ℕ) (receipts : List ReceiptData) (i : ℕ) (b : ReceiptData) → slice_get receipts i ≡ Some b → least_after least (take (suc i) receipts) ≡ b.place + 1
least_is least [] i b at = absurd (no_some b at)
least_is least (r ∷ receipts) zero b at = ap (λ (x : ReceiptData). x.place + 1) (some_is r b at)
least_is least (r ∷ receipts) (suc i) b at = least_is (r.place + 1) receipts i b at

above_not : (a b : ℕ) → (b + 1 ≤ a → ⊥) → a ≤ b
above_not a b h = elim (cases_order a b) [ inl e ↦ omega (arith, e) | inr other ↦ elim other [ inl lt ↦ omega (arith, lt) | inr gt ↦ absurd (h (omega (arith, gt))) ] ]

-- a receipt's place is less than the least one allowed exactly if it isn't above that of the receipt before
too_low : (index : ℕ) (log : LogData) (r : ReceiptData) → slice_get log.receipts index ≡ Some r → (least_after 0 (take index log.receipts) ≤ r.place → ⊥) → IsNotAbove index log r
too_low zero log r at low = absurd (low (omega arith))
too_low (suc i) log r at low =
    let b = earlier log.receipts i r at in
    let least = least_is 0 log.receipts i b.0 b.1 in
    let under : r.place ≤ b.0.place = above_not r.place b.0.place (λ above. low (omega (arith, least, above))) in
    let same : i ≡ suc i - 1 = omega arith in (
      omega arith,
      subst (λ (n : ℕ). IsSomeAnd (slice_get log.receipts n) (λ (before : ReceiptData). r.place ≤ before.place)) same
          (subst (λ (o : Option ReceiptData). IsSomeAnd o (λ (before : ReceiptData). r.place ≤ before.place)) (sym b.1) under),
    )

low_at : (receipts : List ReceiptData) (i : ℕ) (place : ℕ) (o : Option ReceiptData) → slice_get receipts i ≡ o → IsSomeAnd o (λ (before : ReceiptData). place ≤ before.place)
    → least_after 0 (take (suc i) receipts) ≤ place → ⊥
low_at receipts i place None at under high = under
low_at receipts i place (Some b) at under high = omega (arith, least_is 0 receipts i b at, under, high)

is_low : (index : ℕ) (log : LogData) (r : ReceiptData) → IsNotAbove index log r → least_after 0 (take index log.receipts) ≤ r.place → ⊥
is_low zero log r under high = omega (arith, under.0)
is_low (suc i) log r under high =
    let same : suc i - 1 ≡ i = omega arith in
    low_at log.receipts i r.place (slice_get log.receipts i) refl
    (subst (λ (n : ℕ). IsSomeAnd (slice_get log.receipts n) (λ (before : ReceiptData). r.place ≤ before.place)) same under.1) high

-- of the claims on a receipt with this index and this least place that it may have, the first that fails has this fault
abbrev FailsAt : List EntryData → (job log index least : ℕ) → GatherFault → ReceiptData → Type 0
FailsAt entries job log index least f r = FirstFails (claims_of entries job log index least r) f

record FirstReceipt (entries : List EntryData) (job log index least : ℕ) (receipts : List ReceiptData) (f : GatherFault) : Type 0 where
  k : ℕ
  hold : AllHold (receipt_claims entries job log index least (take k receipts))
  fails : IsSomeAnd (slice_get receipts k) (FailsAt entries job log (index + k) (least_after least (take k receipts)) f)

first_receipt : (entries : List EntryData) (job log index least : ℕ) (receipts : List ReceiptData) (f : GatherFault) → FirstFails (receipt_claims entries job log index least receipts) f
    → FirstReceipt entries job log index least receipts f
first_receipt entries job log index least [] f h = absurd h
first_receipt entries job log index least (r ∷ receipts) f h =
    elim (first_parts (claims_of entries job log index least r) (receipt_claims entries job log (index + 1) (r.place + 1) receipts) f h) [
      | inl here ↦
          let same : index ≡ index + 0 = omega arith in
          record { k = 0; hold = tt; fails = subst (λ (n : ℕ). FailsAt entries job log n least f r) same here }
      | inr others ↦
          let w = first_receipt entries job log (index + 1) (r.place + 1) receipts f others.1 in
          let on : index + 1 + w.k ≡ index + suc w.k = omega arith in
          record {
            k = suc w.k;
            hold = all_join (claims_of entries job log index least r) (receipt_claims entries job log (index + 1) (r.place + 1) (take w.k receipts)) others.0 w.hold;
            fails = subst (λ (n : ℕ). IsSomeAnd (slice_get receipts w.k) (FailsAt entries job log n (least_after (r.place + 1) (take w.k receipts)) f)) on w.fails;
          }
    ]

receipt_fails : (entries : List EntryData) (job log index least : ℕ) (receipts : List ReceiptData) (k : ℕ) (f : GatherFault) → AllHold (receipt_claims entries job log index least (take k receipts))
    → IsSomeAnd (slice_get receipts k) (FailsAt entries job log (index + k) (least_after least (take k receipts)) f) → FirstFails (receipt_claims entries job log index least receipts) f
receipt_fails entries job log index least [] k f hold fails = absurd fails
receipt_fails entries job log index least (r ∷ receipts) zero f hold fails =
    let same : index + 0 ≡ index = omega arith in
    first_left (claims_of entries job log index least r) (receipt_claims entries job log (index + 1) (r.place + 1) receipts) f (subst (λ (n : ℕ). FailsAt entries job log n least f r) same fails)
receipt_fails entries job log index least (r ∷ receipts) (suc k) f hold fails =
    let here = claims_of entries job log index least r in
    let rest = receipt_claims entries job log (index + 1) (r.place + 1) (take k receipts) in
    let on : index + suc k ≡ index + 1 + k = omega arith in
    first_right here (receipt_claims entries job log (index + 1) (r.place + 1) receipts) f (all_left here rest hold)
    (receipt_fails entries job log (index + 1) (r.place + 1) receipts k f (all_right here rest hold)
    (subst (λ (n : ℕ). IsSomeAnd (slice_get receipts k) (FailsAt entries job log n (least_after (r.place + 1) (take k receipts)) f)) on fails))

-- ---- the readings of a log

record FirstReading (entries : List EntryData) (log index : ℕ) (readings : List Reading) (f : GatherFault) : Type 0 where
  k : ℕ
  told : f ≡ BadReading log (index + k)
  right : AllByRecursion (IsReadingOf entries) (take k readings)
  wrong : IsSomeAnd (slice_get readings k) (λ (r : Reading). IsReadingOf entries r → ⊥)

first_reading : (entries : List EntryData) (log index : ℕ) (readings : List Reading) (f : GatherFault) → FirstFails (reading_claims entries log index readings) f
    → FirstReading entries log index readings f
first_reading entries log index [] f h = absurd h
first_reading entries log index (r ∷ readings) f (inl h) =
    let same : index ≡ index + 0 = omega arith in
    record { k = 0; told = h.1 ∙ ap (λ (n : ℕ). BadReading log n) same; right = tt; wrong = h.0 }
first_reading entries log index (r ∷ readings) f (inr h) =
    let w = first_reading entries log (index + 1) readings f h.1 in
    let on : index + 1 + w.k ≡ index + suc w.k = omega arith in
    record { k = suc w.k; told = w.told ∙ ap (λ (n : ℕ). BadReading log n) on; right = (h.0, w.right); wrong = w.wrong }

reading_fails : (entries : List EntryData) (log index : ℕ) (readings : List Reading) (k : ℕ) → AllByRecursion (IsReadingOf entries) (take k readings)
    → IsSomeAnd (slice_get readings k) (λ (r : Reading). IsReadingOf entries r → ⊥) → FirstFails (reading_claims entries log index readings) (BadReading log (index + k))
reading_fails entries log index [] k right wrong = absurd wrong
reading_fails entries log index (r ∷ readings) zero right wrong =
    let same : index + 0 ≡ index = omega arith in
    inl (wrong, ap (λ (n : ℕ). BadReading log n) same)
reading_fails entries log index (r ∷ readings) (suc k) right wrong =
    let on : index + 1 + k ≡ index + suc k = omega arith in
    inr (
      right.0,
      subst (λ (n : ℕ). FirstFails (reading_claims entries log (index + 1) readings) (BadReading log n)) on (reading_fails entries log (index + 1) readings k right.1 wrong),
    )

wrong_totals : (entries : List EntryData) (r : Reading) → (IsReadingOf entries r → ⊥) → r.upto ≤ length entries → IsNoReadingOf entries r
wrong_totals entries r wrong within = inr (λ same. wrong (record { within = within; totals = same }))

no_reading : (entries : List EntryData) (r : Reading) → (IsReadingOf entries r → ⊥) → IsNoReadingOf entries r
no_reading entries r wrong = elim (cases_order (length entries) r.upto) [
  | inl e ↦ wrong_totals entries r wrong (omega (arith, e))
  | inr other ↦ elim other [ inl lt ↦ inl lt | inr gt ↦ wrong_totals entries r wrong (omega (arith, gt)) ]
]

not_a_reading : (entries : List EntryData) (r : Reading) → IsNoReadingOf entries r → IsReadingOf entries r → ⊥
not_a_reading entries r (inl past) is = omega (arith, past, is.within)
not_a_reading entries r (inr other) is = other is.totals

-- ---- the logs

record FirstLog (entries : List EntryData) (number : ℕ) (logs : List LogData) (f : GatherFault) : Type 0 where
  k : ℕ
  right : AllByRecursion (IsRightLog entries) (take k logs)
  fails : IsSomeAnd (slice_get logs k) (λ (log : LogData). FirstFails (claims_of_log entries (number + k) log) f)

first_log : (entries : List EntryData) (number : ℕ) (logs : List LogData) (f : GatherFault) → FirstFails (log_claims entries number logs) f → FirstLog entries number logs f
first_log entries number [] f h = absurd h
first_log entries number (log ∷ logs) f h =
    elim (first_parts (claims_of_log entries number log) (log_claims entries (number + 1) logs) f h) [
      | inl here ↦
          let same : number ≡ number + 0 = omega arith in
          record { k = 0; right = tt; fails = subst (λ (n : ℕ). FirstFails (claims_of_log entries n log) f) same here }
      | inr others ↦
          let w = first_log entries (number + 1) logs f others.1 in
          let on : number + 1 + w.k ≡ number + suc w.k = omega arith in
          record {
            k = suc w.k;
            right = (log_holds entries number log others.0, w.right);
            fails = subst (λ (n : ℕ). IsSomeAnd (slice_get logs w.k) (λ (l : LogData). FirstFails (claims_of_log entries n l) f)) on w.fails;
          }
    ]

log_fails : (entries : List EntryData) (number : ℕ) (logs : List LogData) (k : ℕ) (f : GatherFault) → AllByRecursion (IsRightLog entries) (take k logs)
    → IsSomeAnd (slice_get logs k) (λ (log : LogData). FirstFails (claims_of_log entries (number + k) log) f) → FirstFails (log_claims entries number logs) f
log_fails entries number [] k f right fails = absurd fails
log_fails entries number (log ∷ logs) zero f right fails =
    let same : number + 0 ≡ number = omega arith in
    first_left (claims_of_log entries number log) (log_claims entries (number + 1) logs) f (subst (λ (n : ℕ). FirstFails (claims_of_log entries n log) f) same fails)
log_fails entries number (log ∷ logs) (suc k) f right fails =
    let on : number + suc k ≡ number + 1 + k = omega arith in
    first_right (claims_of_log entries number log) (log_claims entries (number + 1) logs) f (log_is entries number log right.0)
    (log_fails entries (number + 1) logs k f right.1 (subst (λ (n : ℕ). IsSomeAnd (slice_get logs k) (λ (l : LogData). FirstFails (claims_of_log entries n l) f)) on fails))

-- ---- the entries

record FirstMissing (logs : List LogData) (start : ℕ) (entries : List EntryData) (f : GatherFault) : Type 0 where
  place : ℕ
  told : f ≡ Missing place
  within : place < start + length entries
  wrong : Contains (places_in logs) place → ⊥
  before : (p : ℕ) → start ≤ p → p < place → Contains (places_in logs) p

first_missing : (logs : List LogData) (start : ℕ) (entries : List EntryData) (f : GatherFault) → FirstFails (entry_claims logs start entries) f → FirstMissing logs start entries f
first_missing logs start [] f h = absurd h
first_missing logs start (e ∷ entries) f (inl h) = record { place = start; told = h.1; within = omega arith; wrong = h.0; before = λ p low under. absurd (omega (arith, low, under)) }
first_missing logs start (e ∷ entries) f (inr h) =
    let w = first_missing logs (start + 1) entries f h.1 in
    record {
      place = w.place;
      told = w.told;
      within = omega (arith, w.within);
      wrong = w.wrong;
      before = λ p low under. elim (cases_eq start p) [ inl is ↦ subst (Contains (places_in logs)) is h.0 | inr other ↦ w.before p (later start p low other) under ];
    }

-- ---- from a fault to its cause

abbrev pub HasCause : List EntryData → List LogData → GatherFault → Type 0
HasCause entries logs (Stranger log index) = IsStranger entries logs log index
HasCause entries logs (Differs log index) = IsDiffering entries logs log index
HasCause entries logs (Backwards log index) = IsBackwards entries logs log index
HasCause entries logs (Missing place) = IsMissing entries logs place
HasCause entries logs (BadReading log index) = IsBadReading entries logs log index
HasCause entries logs (SameJob log) = IsSameJob logs log

-- a wrong receipt is the cause of its fault, if the logs before are right, and so are the receipts before it in its log
receipt_cause : (entries : List EntryData) (logs : List LogData) (number index : ℕ) (log : LogData) → Differ (jobs_of logs) → AllByRecursion (IsRightLog entries) (take number logs)
    → slice_get logs number ≡ Some log → IsLogOf entries (first_receipts index log) → (IsWrong : LogData → ReceiptData → Type 0) (r : ReceiptData) → slice_get log.receipts index ≡ Some r
    → IsWrong log r → IsFirstWrongLog entries logs number (IsFirstWrongReceipt entries index IsWrong)
receipt_cause entries logs number index log differ before at kept IsWrong r there wrong = record {
  differ = differ;
  before = before;
  wrong = subst (λ (o : Option LogData). IsSomeAnd o (IsFirstWrongReceipt entries index IsWrong)) (sym at)
      (record { before = kept; wrong = subst (λ (o : Option ReceiptData). IsSomeAnd o (IsWrong log)) (sym there) wrong });
}

at_receipt : (entries : List EntryData) (logs : List LogData) (number index : ℕ) (log : LogData) (f : GatherFault) → Differ (jobs_of logs) → AllByRecursion (IsRightLog entries) (take number logs)
    → slice_get logs number ≡ Some log → IsLogOf entries (first_receipts index log) → (o : Option ReceiptData) → slice_get log.receipts index ≡ o
    → IsSomeAnd o (FailsAt entries log.job number index (least_after 0 (take index log.receipts)) f) → HasCause entries logs f
at_receipt entries logs number index log f differ before at kept None there fails = absurd fails
at_receipt entries logs number index log f differ before at kept (Some r) there fails = elim fails [
  | inl stranger ↦ subst (HasCause entries logs) (sym stranger.1)
      (receipt_cause entries logs number index log differ before at kept (λ (l : LogData) (x : ReceiptData). ¬ IsOfJob entries l.job x) r there stranger.0)
  | inr own ↦ elim (own.1) [
    | inl other ↦ subst (HasCause entries logs) (sym other.1)
        (receipt_cause entries logs number index log differ before at kept (λ (l : LogData) (x : ReceiptData). IsOfJob entries l.job x × ¬ IsReceiptOf entries x) r there (own.0, other.0))
    | inr same ↦ elim (same.1) [
      | inl low ↦ subst (HasCause entries logs) (sym low.1)
          (receipt_cause entries logs number index log differ before at kept (λ (l : LogData) (x : ReceiptData). IsOfJob entries l.job x × IsReceiptOf entries x × IsNotAbove index l x) r there
          (own.0, same.0, too_low index log r there low.0))
      | inr none ↦ absurd none.1
    ]
  ]
]

at_log : (entries : List EntryData) (logs : List LogData) (number : ℕ) (f : GatherFault) → Differ (jobs_of logs) → AllByRecursion (IsRightLog entries) (take number logs)
    → (o : Option LogData) → slice_get logs number ≡ o → IsSomeAnd o (λ (log : LogData). FirstFails (claims_of_log entries number log) f) → HasCause entries logs f
at_log entries logs number f differ before None at fails = absurd fails
at_log entries logs number f differ before (Some log) at fails =
    elim (first_parts (receipt_claims entries log.job number 0 0 log.receipts) (reading_claims entries number 0 log.readings) f fails) [
      | inl here ↦
          let w = first_receipt entries log.job number 0 0 log.receipts f here in
          let same : 0 + w.k ≡ w.k = omega arith in
          at_receipt entries logs number w.k log f differ before at (log_of_receipts entries number (first_receipts w.k log) w.hold) (slice_get log.receipts w.k) refl
          (subst (λ (n : ℕ). IsSomeAnd (slice_get log.receipts w.k) (FailsAt entries log.job number n (least_after 0 (take w.k log.receipts)) f)) same w.fails)
      | inr there ↦
          let w = first_reading entries number 0 log.readings f there.1 in
          let same : 0 + w.k ≡ w.k = omega arith in
          let told : f ≡ BadReading number w.k = w.told ∙ ap (λ (n : ℕ). BadReading number n) same in
          let wrong : IsFirstWrongReading entries w.k log = record {
            receipts = log_of_receipts entries number log there.0;
            before = w.right;
            wrong = some_map (slice_get log.readings w.k) (λ (r : Reading). IsReadingOf entries r → ⊥) (IsNoReadingOf entries) (no_reading entries) w.wrong;
          } in
          let cause : IsBadReading entries logs number w.k = record {
            differ = differ;
            before = before;
            wrong = subst (λ (o : Option LogData). IsSomeAnd o (IsFirstWrongReading entries w.k)) (sym at) wrong;
          } in
          subst (HasCause entries logs) (sym told) cause
    ]

pub cause_of : (entries : List EntryData) (logs : List LogData) (f : GatherFault) → IsGatherFault entries logs f → HasCause entries logs f
cause_of entries logs f fails =
    let jobs = job_claims 0 [] logs in
    let kept = log_claims entries 0 logs in
    elim (first_parts (jobs ++ kept) (entry_claims logs 0 entries) f fails) [
      | inl front ↦ elim (first_parts jobs kept f front) [
        | inl job ↦
            let w = first_seen 0 [] logs f job in
            let same : 0 + w.k ≡ w.k = omega arith in
            let told : f ≡ SameJob w.k = w.told ∙ ap (λ (n : ℕ). SameJob n) same in
            let before = jobs_of (take w.k logs) in
            let cause : IsSameJob logs w.k = record {
              before = jobs_from (take w.k logs) w.hold;
              wrong = some_map (slice_get logs w.k) (IsSeen before) (λ (log : LogData). Contains before log.job)
                  (λ (log : LogData) (seen : IsSeen before log). Contains-from before log.job (seen_in before log.job seen)) w.seen;
            } in
            subst (HasCause entries logs) (sym told) cause
        | inr log ↦
            let w = first_log entries 0 logs f log.1 in
            let same : 0 + w.k ≡ w.k = omega arith in
            at_log entries logs w.k f (jobs_from logs log.0) w.right (slice_get logs w.k) refl
            (subst (λ (n : ℕ). IsSomeAnd (slice_get logs w.k) (λ (l : LogData). FirstFails (claims_of_log entries n l) f)) same w.fails)
      ]
      | inr missing ↦
          let w = first_missing logs 0 entries f missing.1 in
          let cause : IsMissing entries logs w.place = record {
            differ = jobs_from logs (all_left jobs kept missing.0);
            right = logs_right entries 0 logs (all_right jobs kept missing.0);
            within = omega (arith, w.within);
            wrong = w.wrong;
            before = λ p under. w.before p (omega arith) under;
          } in
          subst (HasCause entries logs) (sym w.told) cause
    ]

-- ---- from a cause to its fault

log_fault : (entries : List EntryData) (logs : List LogData) (number : ℕ) (f : GatherFault) (IsWrong : LogData → Type 0)
    → ((log : LogData) → IsWrong log → FirstFails (claims_of_log entries number log) f) → IsFirstWrongLog entries logs number IsWrong → IsGatherFault entries logs f
log_fault entries logs number f IsWrong fails cause =
    let same : number ≡ 0 + number = omega arith in
    log_told entries logs f (jobs_to logs cause.differ)
    (log_fails entries 0 logs number f cause.before
    (subst (λ (n : ℕ). IsSomeAnd (slice_get logs number) (λ (log : LogData). FirstFails (claims_of_log entries n log) f)) same
    (some_map (slice_get logs number) IsWrong (λ (log : LogData). FirstFails (claims_of_log entries number log) f) fails cause.wrong)))

receipt_fault : (entries : List EntryData) (logs : List LogData) (number index : ℕ) (f : GatherFault) (IsWrong : LogData → ReceiptData → Type 0)
    → ((log : LogData) (r : ReceiptData) → IsWrong log r → FailsAt entries log.job number index (least_after 0 (take index log.receipts)) f r)
    → IsFirstWrongLog entries logs number (IsFirstWrongReceipt entries index IsWrong) → IsGatherFault entries logs f
receipt_fault entries logs number index f IsWrong fails cause =
    let same : index ≡ 0 + index = omega arith in
    log_fault entries logs number f (IsFirstWrongReceipt entries index IsWrong)
    (λ (log : LogData) (wrong : IsFirstWrongReceipt entries index IsWrong log).
    let least = least_after 0 (take index log.receipts) in
    first_left (receipt_claims entries log.job number 0 0 log.receipts) (reading_claims entries number 0 log.readings) f
    (receipt_fails entries log.job number 0 0 log.receipts index f (receipts_of_log entries number (first_receipts index log) wrong.before)
    (subst (λ (n : ℕ). IsSomeAnd (slice_get log.receipts index) (FailsAt entries log.job number n least f)) same
    (some_map (slice_get log.receipts index) (IsWrong log) (FailsAt entries log.job number index least f) (fails log) wrong.wrong))))
    cause

pub stranger_told : (entries : List EntryData) (logs : List LogData) (log index : ℕ) → IsStranger entries logs log index → IsGatherFault entries logs (Stranger log index)
stranger_told entries logs log index =
    receipt_fault entries logs log index (Stranger log index) (λ (l : LogData) (r : ReceiptData). ¬ IsOfJob entries l.job r) (λ l r wrong. inl (wrong, refl))

pub differs_told : (entries : List EntryData) (logs : List LogData) (log index : ℕ) → IsDiffering entries logs log index → IsGatherFault entries logs (Differs log index)
differs_told entries logs log index =
    receipt_fault entries logs log index (Differs log index) (λ (l : LogData) (r : ReceiptData). IsOfJob entries l.job r × ¬ IsReceiptOf entries r)
    (λ l r wrong. inr (wrong.0, inl (wrong.1, refl)))

pub backwards_told : (entries : List EntryData) (logs : List LogData) (log index : ℕ) → IsBackwards entries logs log index → IsGatherFault entries logs (Backwards log index)
backwards_told entries logs log index =
    receipt_fault entries logs log index (Backwards log index) (λ (l : LogData) (r : ReceiptData). IsOfJob entries l.job r × IsReceiptOf entries r × IsNotAbove index l r)
    (λ l r wrong. inr (wrong.0, inr (wrong.1, inl (is_low index l r wrong.2, refl))))

pub bad_reading_told : (entries : List EntryData) (logs : List LogData) (log index : ℕ) → IsBadReading entries logs log index → IsGatherFault entries logs (BadReading log index)
bad_reading_told entries logs log index =
    let same : 0 + index ≡ index = omega arith in
    log_fault entries logs log (BadReading log index) (IsFirstWrongReading entries index)
    (λ (l : LogData) (wrong : IsFirstWrongReading entries index l).
    first_right (receipt_claims entries l.job log 0 0 l.receipts) (reading_claims entries log 0 l.readings) (BadReading log index) (receipts_of_log entries log l wrong.receipts)
    (subst (λ (n : ℕ). FirstFails (reading_claims entries log 0 l.readings) (BadReading log n)) same
    (reading_fails entries log 0 l.readings index wrong.before
    (some_map (slice_get l.readings index) (IsNoReadingOf entries) (λ (r : Reading). IsReadingOf entries r → ⊥) (not_a_reading entries) wrong.wrong))))

pub same_job_told : (entries : List EntryData) (logs : List LogData) (log : ℕ) → IsSameJob logs log → IsGatherFault entries logs (SameJob log)
same_job_told entries logs log cause =
    let same : 0 + log ≡ log = omega arith in
    let before = jobs_of (take log logs) in
    job_told entries logs (SameJob log)
    (subst (λ (n : ℕ). FirstFails (job_claims 0 [] logs) (SameJob n)) same
    (seen_fails 0 [] logs log (jobs_to (take log logs) cause.before)
    (some_map (slice_get logs log) (λ (l : LogData). Contains before l.job) (IsSeen before) (λ (l : LogData) (there : Contains before l.job). in_seen before l.job there) cause.wrong)))

pub missing_is_told : (entries : List EntryData) (logs : List LogData) (place : ℕ) → IsMissing entries logs place → IsGatherFault entries logs (Missing place)
missing_is_told entries logs place cause =
    let jobs = job_claims 0 [] logs in
    let kept = log_claims entries 0 logs in
    first_right (jobs ++ kept) (entry_claims logs 0 entries) (Missing place) (all_join jobs kept (jobs_to logs cause.differ) (logs_are entries 0 logs cause.right))
    (entries_miss logs 0 entries place (omega arith) (omega (arith, cause.within)) cause.wrong (λ p low under. cause.before p under))

-- ---- if entries are a merge of logs, the only fault is a reading's

abbrev pub IsOfNoReading : GatherFault → Type 0
IsOfNoReading f = (log index : ℕ) → f ≢ BadReading log index

no_reading_fails : (entries : List EntryData) (log index : ℕ) (readings : List Reading) (f : GatherFault) → IsOfNoReading f → FirstFails (reading_claims entries log index readings) f → ⊥
no_reading_fails entries log index [] f other fails = fails
no_reading_fails entries log index (r ∷ readings) f other (inl h) = other log index h.1
no_reading_fails entries log index (r ∷ readings) f other (inr h) = no_reading_fails entries log (index + 1) readings f other h.1

no_log_fails : (entries : List EntryData) (number : ℕ) (logs : List LogData) (f : GatherFault) → IsOfNoReading f → AllByRecursion (IsLogOf entries) logs → FirstFails (log_claims entries number logs) f → ⊥
no_log_fails entries number [] f other kept fails = fails
no_log_fails entries number (log ∷ logs) f other kept fails =
    let receipts = receipt_claims entries log.job number 0 0 log.receipts in
    let readings = reading_claims entries number 0 log.readings in
    elim (first_parts (receipts ++ readings) (log_claims entries (number + 1) logs) f fails) [
      | inl here ↦ elim (first_parts receipts readings f here) [
        | inl receipt ↦ none_fails receipts f (receipts_of_log entries number log kept.0) receipt
        | inr reading ↦ no_reading_fails entries number 0 log.readings f other reading.1
      ]
      | inr there ↦ no_log_fails entries (number + 1) logs f other kept.1 there.1
    ]

pub no_merge : (entries : List EntryData) (logs : List LogData) (f : GatherFault) → IsGatherFault entries logs f → IsOfNoReading f → IsMerge entries logs → ⊥
no_merge entries logs f fails other merge =
    let jobs = job_claims 0 [] logs in
    let kept = log_claims entries 0 logs in
    elim (first_parts (jobs ++ kept) (entry_claims logs 0 entries) f fails) [
      | inl front ↦ elim (first_parts jobs kept f front) [
        | inl job ↦ none_fails jobs f (jobs_to logs merge.differ) job
        | inr log ↦ no_log_fails entries 0 logs f other merge.kept log.1
      ]
      | inr missing ↦ none_fails (entry_claims logs 0 entries) f (entries_are logs 0 entries (λ place low high. merge.whole place (omega (arith, high)))) missing.1
    ]

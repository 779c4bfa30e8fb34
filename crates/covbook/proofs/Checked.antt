-- The loops of `gather` over jobs, logs, receipts and readings. After an element that is right, the result is that of the
-- rest. At the first one that is wrong, the result is its fault.
use Rattle.std.proofs.Common.{◌≡◌, ℕ, zero, suc, ◌+◌, ◌-◌, ◌<◌, ◌≤◌, Bool, true, eqb, List, [], ◌∷◌, ◌++◌, Option, Some, None, Result, length, get_or, take, drop, map, sym, refl, ap, ◌∙◌, inl, inr, subst, arith}
use Rattle.std.specs.Prelude.{◌≢◌, ◌↔◌, ◌&&◌, IsTrue, slice_get, IsSomeAnd, option_map}
use Rattle.std.specs.List.{All, AllByRecursion}
use Rattle.std.proofs.lemmas.Bool.{and_from, and_parts, eq-eqb, eqb-true}
use Rattle.std.proofs.lemmas.List.{length-map, take_more, map-append}
use Rattle.std.proofs.lemmas.List.Elements.{All-from_recursion, recursion_from_All}
use Rattle.covtable.specs.declared.totals.Totals.{Totals}
use Rattle.covbook.specs.declared.entry.Receipt.{Receipt}
use Rattle.covbook.specs.declared.gather_fault.GatherFault.{GatherFault}
use Rattle.covbook.specs.declared.gather_fault.GatherFault.TheVariants.{Backwards, BadReading, Differs, SameJob, Stranger}
use Rattle.covbook.specs.declared.log.JobLog.{JobLog}
use Rattle.covbook.specs.declared.reading.Reading.{Reading}
use Rattle.covbook.specs.Op.{EntryData, ReceiptData}
use Rattle.covbook.specs.EntryView.{receipt_data}
use Rattle.covbook.specs.Gather.{LogData, AllHold, IsReadingOf, FirstFails, claim, claims_of, claims_of_log, job_claims, reading_claims, receipt_claims, log_claims}
use Rattle.covbook.specs.GatherSteps.{Returns}
use Rattle.covbook.specs.LogView.{log_data}
use Rattle.covbook.specs.Step.{last_totals, receipt_of}
use Rattle.covbook.proofs.Claims.{first_left, rest_at, rest_is, tells_after}
use Rattle.covbook.proofs.PlaceCounts.{all_mapped, all_unmapped}

pub found_at : {X : Type 0} (xs : List X) (i : ℕ) (x : X) → i < length xs → x ≡ get_or xs i x → slice_get xs i ≡ Some x
found_at [] i x within is = absurd (omega (arith, within))
found_at (y ∷ ys) zero x within is = ap (λ z. Some z) (sym is)
found_at (y ∷ ys) (suc i) x within is = found_at ys i x (omega (arith, within)) is

pub no_some : {X : Type 0} (x : X) → None ≡ Some x → ⊥
no_some x e = cc

pub some_is : {X : Type 0} (x y : X) → Some x ≡ Some y → x ≡ y
some_is x y e = cc

mapped_get : {X Y : Type 0} (f : X → Y) (xs : List X) (i : ℕ) (x : X) → slice_get xs i ≡ Some x → slice_get (map f xs) i ≡ Some (f x)
mapped_get f [] i x e = absurd (no_some x e)
mapped_get f (y ∷ ys) zero x e = ap (option_map f) e
mapped_get f (y ∷ ys) (suc i) x e = mapped_get f ys i x e

-- ---- jobs

abbrev jobs : {A : Type 0} → List (JobLog A) → List ℕ
jobs {A} logs = map (λ (l : JobLog A). l.job) logs

jobs_more : {A : Type 0} (logs : List (JobLog A)) (i : ℕ) (log : JobLog A) → i < length logs → log ≡ get_or logs i log → jobs (take (i + 1) logs) ≡ jobs (take i logs) ++ log.job ∷ []
jobs_more {A} logs i log within is =
    ap (λ (ls : List (JobLog A)). jobs ls) (take_more logs i log within) ∙ map-append (λ (l : JobLog A). l.job) (take i logs) (get_or logs i log ∷ [])
    ∙ ap (λ (l : JobLog A). jobs (take i logs) ++ l.job ∷ []) (sym is)

pub job_on : {A : Type 0} (logs : List (JobLog A)) (i : ℕ) (log : JobLog A) → i < length logs → log ≡ get_or logs i log → All (λ (l : JobLog A). l.job ≢ log.job) (take i logs)
    → (r : Result (Unit {0}) GatherFault) → Returns r (job_claims (i + 1) (map (λ (l : JobLog A). l.job) (take (i + 1) logs)) (map log_data (drop (i + 1) logs)))
    → Returns r (job_claims i (map (λ (l : JobLog A). l.job) (take i logs)) (map log_data (drop i logs)))
job_on {A} logs i log within is news r told =
    let before = jobs (take i logs) in
    let rest : List LogData = map log_data (drop (i + 1) logs) in
    let later : Returns r (job_claims (i + 1) (before ++ log.job ∷ []) rest) = subst (λ (js : List ℕ). Returns r (job_claims (i + 1) js rest)) (jobs_more logs i log within is) told in
    let other : ℕ → Type 0 = λ job. job ≢ log.job in
    let all : AllByRecursion other before = all_mapped other (λ (l : JobLog A). l.job) (take i logs) (recursion_from_All (λ (l : JobLog A). l.job ≢ log.job) (take i logs) news) in
    subst (λ (ls : List (JobLog A)). Returns r (job_claims i before (map log_data ls))) (sym (rest_is logs i log within is))
    (tells_after r (claim (AllByRecursion other before) (SameJob i) ∷ []) (job_claims (i + 1) (before ++ log.job ∷ []) rest) (all, tt) later)

pub job_stops : {A : Type 0} (logs : List (JobLog A)) (i : ℕ) (log : JobLog A) → i < length logs → log ≡ get_or logs i log → (All (λ (l : JobLog A). l.job ≢ log.job) (take i logs) → ⊥)
    → FirstFails (job_claims i (map (λ (l : JobLog A). l.job) (take i logs)) (map log_data (drop i logs))) (SameJob i)
job_stops {A} logs i log within is seen =
    let other : ℕ → Type 0 = λ job. job ≢ log.job in
    let old : AllByRecursion other (jobs (take i logs)) → ⊥ = λ all. seen (All-from_recursion (λ (l : JobLog A). l.job ≢ log.job) (take i logs) (all_unmapped other (λ (l : JobLog A). l.job) (take i logs) all)) in
    subst (λ (ls : List (JobLog A)). FirstFails (job_claims i (jobs (take i logs)) (map log_data ls)) (SameJob i)) (sym (rest_is logs i log within is)) (inl (old, refl))

-- ---- logs

pub log_on : {A : Type 0} (entries : List EntryData) (logs : List (JobLog A)) (i : ℕ) (log : JobLog A) → i < length logs → log ≡ get_or logs i log
    → AllHold (claims_of_log entries i (log_data log)) → (r : Result (Unit {0}) GatherFault)
    → Returns r (log_claims entries (i + 1) (map log_data (drop (i + 1) logs))) → Returns r (log_claims entries i (map log_data (drop i logs)))
log_on {A} entries logs i log within is all r told =
    subst (λ (ls : List (JobLog A)). Returns r (log_claims entries i (map log_data ls))) (sym (rest_is logs i log within is))
    (tells_after r (claims_of_log entries i (log_data log)) (log_claims entries (i + 1) (map log_data (drop (i + 1) logs))) all told)

pub log_stops : {A : Type 0} (entries : List EntryData) (logs : List (JobLog A)) (i : ℕ) (log : JobLog A) (f : GatherFault) → i < length logs → log ≡ get_or logs i log
    → FirstFails (claims_of_log entries i (log_data log)) f → FirstFails (log_claims entries i (map log_data (drop i logs))) f
log_stops {A} entries logs i log f within is fails =
    subst (λ (ls : List (JobLog A)). FirstFails (log_claims entries i (map log_data ls)) f) (sym (rest_is logs i log within is))
    (first_left (claims_of_log entries i (log_data log)) (log_claims entries (i + 1) (map log_data (drop (i + 1) logs))) f fails)

-- ---- receipts

-- a receipt is right if the entry at its place is of the job and fits the receipt, and the place isn't too low
pub receipt_is : {X : Type 0} (f : X → EntryData) (entries : List X) (entry : X) (job log index least : ℕ) (receipt : ReceiptData) → slice_get entries receipt.place ≡ Some entry
    → (f entry).job ≡ job → receipt_of receipt.place (f entry) ≡ receipt → least ≤ receipt.place → AllHold (claims_of (map f entries) job log index least receipt)
receipt_is {X} f entries entry job log index least receipt at own same low =
    let there = sym (mapped_get f entries receipt.place entry at) in (
      subst (λ (o : Option EntryData). IsSomeAnd o (λ (e : EntryData). e.job ≡ job)) there own,
      (subst (λ (o : Option EntryData). IsSomeAnd o (λ (e : EntryData). receipt_of receipt.place e ≡ receipt)) there same, (low, tt)),
    )

-- the three faults of a receipt: its entry is of another job; the entry doesn't fit it; its place is too low
pub other_job : {X : Type 0} (f : X → EntryData) (entries : List X) (entry : X) (job log index least : ℕ) (receipt : ReceiptData) → slice_get entries receipt.place ≡ Some entry
    → ((f entry).job ≡ job → ⊥) → FirstFails (claims_of (map f entries) job log index least receipt) (Stranger log index)
other_job {X} f entries entry job log index least receipt at other =
    let there = mapped_get f entries receipt.place entry at in
    inl ((λ own. other (subst (λ (o : Option EntryData). IsSomeAnd o (λ (e : EntryData). e.job ≡ job)) there own)), refl)

pub other_receipt : {X : Type 0} (f : X → EntryData) (entries : List X) (entry : X) (job log index least : ℕ) (receipt : ReceiptData) → slice_get entries receipt.place ≡ Some entry
    → (f entry).job ≡ job → (receipt_of receipt.place (f entry) ≡ receipt → ⊥) → FirstFails (claims_of (map f entries) job log index least receipt) (Differs log index)
other_receipt {X} f entries entry job log index least receipt at own differs =
    let there = mapped_get f entries receipt.place entry at in
    inr (
      subst (λ (o : Option EntryData). IsSomeAnd o (λ (e : EntryData). e.job ≡ job)) (sym there) own,
      inl ((λ same. differs (subst (λ (o : Option EntryData). IsSomeAnd o (λ (e : EntryData). receipt_of receipt.place e ≡ receipt)) there same)), refl),
    )

pub place_before : {X : Type 0} (f : X → EntryData) (entries : List X) (entry : X) (job log index least : ℕ) (receipt : ReceiptData) → slice_get entries receipt.place ≡ Some entry
    → (f entry).job ≡ job → receipt_of receipt.place (f entry) ≡ receipt → receipt.place < least → FirstFails (claims_of (map f entries) job log index least receipt) (Backwards log index)
place_before {X} f entries entry job log index least receipt at own same low =
    let there = sym (mapped_get f entries receipt.place entry at) in
    inr (
      subst (λ (o : Option EntryData). IsSomeAnd o (λ (e : EntryData). e.job ≡ job)) there own,
      inr (
        subst (λ (o : Option EntryData). IsSomeAnd o (λ (e : EntryData). receipt_of receipt.place e ≡ receipt)) there same,
        inl ((λ high. omega (arith, low, high)), refl),
      ),
    )

pub receipt_on : {A : Type 0} (entries : List EntryData) (job log least next : ℕ) (receipts : List (Receipt A)) (i : ℕ) (receipt : Receipt A) → i < length receipts → receipt ≡ get_or receipts i receipt
    → AllHold (claims_of entries job log i least (receipt_data receipt)) → next ≡ receipt.place + 1 → (r : Result (Unit {0}) GatherFault)
    → Returns r (receipt_claims entries job log (i + 1) next (map receipt_data (drop (i + 1) receipts))) → Returns r (receipt_claims entries job log i least (map receipt_data (drop i receipts)))
receipt_on {A} entries job log least next receipts i receipt within is all above r told =
    let rest : List ReceiptData = map receipt_data (drop (i + 1) receipts) in
    subst (λ (rs : List (Receipt A)). Returns r (receipt_claims entries job log i least (map receipt_data rs))) (sym (rest_is receipts i receipt within is))
    (tells_after r (claims_of entries job log i least (receipt_data receipt)) (receipt_claims entries job log (i + 1) (receipt.place + 1) rest) all
    (subst (λ (n : ℕ). Returns r (receipt_claims entries job log (i + 1) n rest)) above told))

pub receipt_stops : {A : Type 0} (entries : List EntryData) (job log least : ℕ) (receipts : List (Receipt A)) (i : ℕ) (receipt : Receipt A) (f : GatherFault) → i < length receipts → receipt ≡ get_or receipts i receipt
    → FirstFails (claims_of entries job log i least (receipt_data receipt)) f → FirstFails (receipt_claims entries job log i least (map receipt_data (drop i receipts))) f
receipt_stops {A} entries job log least receipts i receipt f within is fails =
    subst (λ (rs : List (Receipt A)). FirstFails (receipt_claims entries job log i least (map receipt_data rs)) f) (sym (rest_is receipts i receipt within is))
    (first_left (claims_of entries job log i least (receipt_data receipt)) (receipt_claims entries job log (i + 1) (receipt.place + 1) (map receipt_data (drop (i + 1) receipts))) f fails)

-- ---- readings

pub reading_on : (entries : List EntryData) (log : ℕ) (readings : List Reading) (i : ℕ) (d : Reading) → i < length readings → IsReadingOf entries (get_or readings i d)
    → (r : Result (Unit {0}) GatherFault) → Returns r (reading_claims entries log (i + 1) (drop (i + 1) readings)) → Returns r (reading_claims entries log i (drop i readings))
reading_on entries log readings i d within right r told =
    let reading = get_or readings i d in
    subst (λ (rs : List Reading). Returns r (reading_claims entries log i rs)) (sym (rest_at readings i d reading within refl))
    (tells_after r (claim (IsReadingOf entries reading) (BadReading log i) ∷ []) (reading_claims entries log (i + 1) (drop (i + 1) readings)) (right, tt) told)

pub reading_stops : (entries : List EntryData) (log : ℕ) (readings : List Reading) (i : ℕ) (d : Reading) → i < length readings → (IsReadingOf entries (get_or readings i d) → ⊥)
    → FirstFails (reading_claims entries log i (drop i readings)) (BadReading log i)
reading_stops entries log readings i d within wrong =
    subst (λ (rs : List Reading). FirstFails (reading_claims entries log i rs) (BadReading log i)) (sym (rest_at readings i d (get_or readings i d) within refl)) (inl (wrong, refl))

-- the totals after an entry are the ones that it has
last_at : (entries : List EntryData) (i : ℕ) (e : EntryData) → slice_get entries i ≡ Some e → last_totals (take (suc i) entries) ≡ e.after
last_at [] i e at = absurd (no_some e at)
last_at (x ∷ entries) zero e at = ap (λ (y : EntryData). y.after) (some_is x e at)
last_at (x ∷ []) (suc i) e at = absurd (no_some e at)
last_at (x ∷ y ∷ entries) (suc i) e at = last_at (y ∷ entries) i e at

pub some_suc : (n : ℕ) → (n ≡ 0 → ⊥) → n ≡ suc (n - 1)
some_suc zero h = absurd (h refl)
some_suc (suc n) h = omega arith

pub totals_at_last : {X : Type 0} (f : X → EntryData) (entries : List X) (i upto : ℕ) (e : X) → upto ≡ suc i → slice_get entries i ≡ Some e → (f e).after ≡ last_totals (take upto (map f entries))
totals_at_last {X} f entries i upto e is at =
    subst (λ (n : ℕ). (f e).after ≡ last_totals (take n (map f entries))) (sym is) (sym (last_at (map f entries) i (f e) (mapped_get f entries i e at)))

-- totals are the same if their fields are
fields_are : (lf lh ff fh bf bh lf' lh' ff' fh' bf' bh' : ℕ) → lf ≡ lf' → lh ≡ lh' → ff ≡ ff' → fh ≡ fh' → bf ≡ bf' → bh ≡ bh' → (mk : ℕ → ℕ → ℕ → ℕ → ℕ → ℕ → Totals)
    → mk lf lh ff fh bf bh ≡ mk lf' lh' ff' fh' bf' bh'
fields_are lf lh ff fh bf bh lf' lh' ff' fh' bf' bh' a b c d e f mk = cc

abbrev same_fields : Totals → Totals → Bool
same_fields a b = eqb a.lf b.lf && (eqb a.lh b.lh && (eqb a.ff b.ff && (eqb a.fh b.fh && (eqb a.bf b.bf && eqb a.bh b.bh))))

same_itself : (a : Totals) → same_fields a a ≡ true
same_itself a =
    let lf = eq-eqb a.lf a.lf refl in
    let lh = eq-eqb a.lh a.lh refl in
    let ff = eq-eqb a.ff a.ff refl in
    let fh = eq-eqb a.fh a.fh refl in
    let bf = eq-eqb a.bf a.bf refl in
    let bh = eq-eqb a.bh a.bh refl in
    let functions = eqb a.ff a.ff && (eqb a.fh a.fh && (eqb a.bf a.bf && eqb a.bh a.bh)) in
    let branches = eqb a.bf a.bf && eqb a.bh a.bh in
    and_from (eqb a.lf a.lf) (eqb a.lh a.lh && functions) lf
    (and_from (eqb a.lh a.lh) functions lh (and_from (eqb a.ff a.ff) (eqb a.fh a.fh && branches) ff (and_from (eqb a.fh a.fh) branches fh (and_from (eqb a.bf a.bf) (eqb a.bh a.bh) bf bh))))

fields_same : (a b : Totals) → same_fields a b ≡ true → a ≡ b
fields_same a b same =
    let branches = eqb a.bf b.bf && eqb a.bh b.bh in
    let functions = eqb a.ff b.ff && (eqb a.fh b.fh && branches) in
    let one = and_parts (eqb a.lf b.lf) (eqb a.lh b.lh && functions) same in
    let two = and_parts (eqb a.lh b.lh) functions one.1 in
    let three = and_parts (eqb a.ff b.ff) (eqb a.fh b.fh && branches) two.1 in
    let four = and_parts (eqb a.fh b.fh) branches three.1 in
    let five = and_parts (eqb a.bf b.bf) (eqb a.bh b.bh) four.1 in
    fields_are a.lf a.lh a.ff a.fh a.bf a.bh b.lf b.lh b.ff b.fh b.bf b.bh (eqb-true a.lf b.lf one.0) (eqb-true a.lh b.lh two.0) (eqb-true a.ff b.ff three.0) (eqb-true a.fh b.fh four.0)
    (eqb-true a.bf b.bf five.0) (eqb-true a.bh b.bh five.1) (λ lf lh ff fh bf bh. record { lf = lf; lh = lh; ff = ff; fh = fh; bf = bf; bh = bh })

pub same_totals : (a b : Totals) (same : Bool) → same ≡ same_fields a b → IsTrue same ↔ (a ≡ b)
same_totals a b same is = ((λ yes. fields_same a b (sym is ∙ yes)), λ e. is ∙ ap (same_fields a) (sym e) ∙ same_itself a)

-- a reading is right exactly if its totals are those after its number of entries
pub reading_is : {X : Type 0} (f : X → EntryData) (entries : List X) (reading : Reading) (totals : Totals) (same : Bool) → reading.upto ≤ length entries
    → totals ≡ last_totals (take reading.upto (map f entries)) → IsTrue same ↔ (totals ≡ reading.totals) → IsTrue same ↔ IsReadingOf (map f entries) reading
reading_is f entries reading totals same within are is = (
  λ yes. record { within = omega (arith, within, length-map entries f); totals = sym (is.0 yes) ∙ are },
  λ of. is.1 (are ∙ sym of.totals),
)

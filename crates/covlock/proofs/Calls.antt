-- One more call of a seat: the log with its receipt is the seat's.
use Rattle.std.proofs.Common.{◌≡◌, ◌∙◌, ℕ, ◌+◌, ◌<◌, ◌≤◌, List, [], ◌∷◌, ◌++◌, length, map, inl, inr, ap, sym, refl, subst, arith}
use Rattle.std.specs.List.{Contains}
use Rattle.std.proofs.lemmas.List.{length-append, length-map, map-append}
use Rattle.covbook.proofs.Counted.{one_more}
use Rattle.covbook.proofs.PlaceCounts.{In, Contains-from}
use Rattle.covbook.specs.Gather.{LogData, places_of}
use Rattle.covbook.specs.Kept.{IsKept, IsPrefix, with_receipt}
use Rattle.covbook.specs.Op.{OpData, AnswerData, EntryData, ReceiptData}
use Rattle.covbook.specs.Step.{max_entries, receipt_of}
use Rattle.covlock.specs.Call.{IsNewsOf}
use Rattle.covlock.specs.Logs.{IsLogged}
use Rattle.covlock.specs.Seat.{SeatData, fresh_seat, after_call, log_of}
use Rattle.covlock.specs.Weight.{weight, weight_at}
use Rattle.covlock.proofs.Weights.{weight_append}

abbrev told_at : (place : ℕ) → OpData → AnswerData → ReceiptData
told_at place op answer = record { place = place; op = op; answer = answer }

same_receipt : (place : ℕ) (op : OpData) (answer : AnswerData) (entry : EntryData) → entry.op ≡ op → entry.answer ≡ answer → receipt_of place entry ≡ told_at place op answer
same_receipt place op answer entry o a = ap (λ (p : OpData). told_at place p entry.answer) o ∙ ap (λ (b : AnswerData). told_at place op b) a

-- the log with the call's receipt is a log of the history of the call's news
pub kept_after : (log : LogData) (calls seen : ℕ) (latest news : List EntryData) (asked : OpData) (told : ReceiptData) → IsKept log calls seen latest → IsNewsOf log.job asked told news
    → told.op ≡ asked → seen ≤ told.place → IsPrefix latest news → IsKept (with_receipt log told) (calls + 1) (told.place + 1) news
kept_after log calls seen latest news asked told kept is same later prefix =
    let long : length news ≡ length is.before + 1 = ap (λ (es : List EntryData). length es) is.ends ∙ length-append is.before (is.entry ∷ []) in
    let here : length is.before ≡ told.place = omega (arith, long, is.place) in
    subst (λ (es : List EntryData). IsKept (with_receipt log told) (calls + 1) (told.place + 1) es) (sym is.ends)
    (one_more log calls seen latest is.before is.entry told kept is.own (same_receipt told.place told.op told.answer is.entry (is.asks ∙ sym same) is.answer) here later
    (subst (λ (es : List EntryData). IsPrefix latest es) is.ends prefix))

-- the news of a call are of a longer history than those before
pub news_longer : (log : LogData) (calls seen : ℕ) (latest news : List EntryData) (job : ℕ) (asked : OpData) (told : ReceiptData) → IsKept log calls seen latest → IsNewsOf job asked told news
    → seen ≤ told.place → length latest < length news
news_longer log calls seen latest news job asked told kept is later = omega (arith, kept.upto, is.place, later)

in_last : (xs : List ℕ) (x y : ℕ) → y ≡ x → In x (xs ++ y ∷ [])
in_last [] x y e = inl e
in_last (z ∷ xs) x y e = inr (in_last xs x y e)

same_place : (place told : ℕ) → place + 1 ≡ told + 1 → told ≡ place
same_place place told e = omega (arith, e)

-- the places of the log with one more receipt
places_after : (log : LogData) (told : ReceiptData) → places_of (with_receipt log told) ≡ places_of log ++ told.place ∷ []
places_after log told = map-append (λ (r : ReceiptData). r.place) log.receipts (told ∷ [])

logged_after : (seat : SeatData) (latest news : List EntryData) (amount after : ℕ) (told : ReceiptData) → IsLogged seat latest amount → IsNewsOf seat.job told.op told news → told.place < max_entries
    → seat.seen ≤ told.place → IsPrefix latest news → after ≡ amount + weight_at told.place → IsLogged (after_call seat told) news after
logged_after seat latest news amount after told logged is few later prefix adds =
    let log = log_of seat in
    let places : places_of (with_receipt log told) ≡ places_of log ++ told.place ∷ [] = places_after log told in
    let more : weight (places_of (with_receipt log told)) ≡ weight (places_of log) + weight (told.place ∷ []) = ap (λ (ps : List ℕ). weight ps) places ∙ weight_append (places_of log) (told.place ∷ []) in
    record {
      kept = kept_after log seat.calls seat.seen latest news told.op told logged.kept is refl later prefix;
      last = λ place ends.
          subst (λ (ps : List ℕ). Contains ps place) (sym places) (Contains-from (places_of log ++ told.place ∷ []) place (in_last (places_of log) place told.place (same_place place told.place ends)));
      each = omega (arith, logged.each, later);
      few = omega (arith, few);
      weighs = omega (arith, adds, logged.weighs, more);
    }

-- ---- a seat, with its receipts shown by what is stored of them

abbrev seat_of : {X : Type 0} → (stored : List X) → (shown : X → ReceiptData) → (job calls seen : ℕ) → SeatData
seat_of stored shown job calls seen = record { job = job; calls = calls; seen = seen; receipts = map shown stored }

-- the seat has no more receipts than it has seen entries, so it has room for that of the next entry
pub room_left : {X : Type 0} (stored : List X) (shown : X → ReceiptData) (job calls seen : ℕ) (latest : List EntryData) (amount stored_len room place : ℕ)
    → IsLogged (seat_of stored shown job calls seen) latest amount → stored_len ≡ length stored → max_entries ≤ room → seen ≤ place → place < max_entries → stored_len < room
room_left stored shown job calls seen latest amount stored_len room place logged is enough later few =
    let counted : length (map shown stored) ≡ calls = logged.kept.counted in
    omega (arith, counted, length-map stored shown, logged.each, is, enough, later, few)

pub shown_after : {X : Type 0} (stored next : List X) (last : X) (shown : X → ReceiptData) (told : ReceiptData) → next ≡ stored ++ last ∷ [] → shown last ≡ told → map shown next ≡ map shown stored ++ told ∷ []
shown_after {X} stored next last shown told grown is_told =
    ap (λ (xs : List X). map shown xs) grown ∙ map-append shown stored (last ∷ []) ∙ ap (λ (r : ReceiptData). map shown stored ++ r ∷ []) is_told

-- after a call the seat has the call's receipt too
pub seat_after : {X : Type 0} (stored next : List X) (last : X) (shown : X → ReceiptData) (job calls seen : ℕ) (latest news : List EntryData) (amount after : ℕ) (told : ReceiptData)
    → next ≡ stored ++ last ∷ [] → shown last ≡ told → IsLogged (seat_of stored shown job calls seen) latest amount → IsNewsOf job told.op told news → told.place < max_entries
    → seen ≤ told.place → IsPrefix latest news → after ≡ amount + weight_at told.place → IsLogged (seat_of next shown job (calls + 1) (told.place + 1)) news after
seat_after stored next last shown job calls seen latest news amount after told grown is_told logged is few later prefix adds =
    subst (λ (rs : List ReceiptData). IsLogged (record { job = job; calls = calls + 1; seen = told.place + 1; receipts = rs }) news after) (sym (shown_after stored next last shown told grown is_told))
    (logged_after (seat_of stored shown job calls seen) latest news amount after told logged is few later prefix adds)

-- a seat without calls has the empty log
fresh_logged : (job amount : ℕ) → amount ≡ 0 → IsLogged (fresh_seat job) [] amount
fresh_logged job amount none = record {
  kept = record { log_of = record { rise = tt; own = tt; same = tt }; counted = refl; upto = refl };
  last = λ place ends. absurd (omega (arith, ends));
  each = omega arith;
  few = omega arith;
  weighs = none;
}

pub seat_before : {X : Type 0} (stored : List X) (shown : X → ReceiptData) (job amount : ℕ) → stored ≡ [] → amount ≡ 0 → IsLogged (seat_of stored shown job 0 0) [] amount
seat_before {X} stored shown job amount empty none = subst (λ (xs : List X). IsLogged (seat_of xs shown job 0 0) [] amount) (sym empty) (fresh_logged job amount none)

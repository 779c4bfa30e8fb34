-- The readings of a job: one after each receipt, if it has a reader.
use Rattle.std.proofs.Common.{◌≡◌, ◌∙◌, ℕ, ◌<◌, Bool, true, false, List, [], ◌∷◌, ◌++◌, length, take, Result, Ok, Err, OnOk, sym, ap, subst, append_assoc, length-append, arith}
use Rattle.std.proofs.lemmas.List.{take_all}
use Rattle.covbook.specs.declared.reading.Reading.{Reading}
use Rattle.covbook.specs.Kept.{IsPrefix}
use Rattle.covbook.specs.Op.{EntryData, OpData, ReceiptData}
use Rattle.covbook.specs.Step.{IsLegal, last_totals}
use Rattle.covworkers.specs.Collect.{AreReadAfter, HasRead}
use Rattle.covworkers.specs.Work.{Asks, ReadsOn, ReadsOnce, WorkerData}

pub on_ok : {T E P Q : Type 0} (r : Result T E) → (P → Q) → OnOk r P → OnOk r Q
on_ok (Ok x) f p = f p
on_ok (Err e) f p = tt

-- a reader that learned the news and then saw or learned this history has read its totals
pub reads_once : (news learned history : List EntryData) (reading : Reading) (readings after : List Reading) → IsPrefix news learned → IsPrefix learned history → IsLegal history
    → reading.upto ≡ length history → reading.totals ≡ last_totals history → after ≡ readings ++ reading ∷ [] → ReadsOnce news readings after
reads_once news learned history reading readings after first more legal upto totals behind =
    let onward : news ++ (first.0 ++ more.0) ≡ history = sym (append_assoc news first.0 more.0) ∙ ap (λ (h : List EntryData). h ++ more.0) first.1 ∙ more.1 in
    let long : length (news ++ (first.0 ++ more.0)) ≡ length history = ap (λ (h : List EntryData). length h) onward in
    let all : take reading.upto history ≡ history = take_all reading.upto history (omega (arith, upto)) in
    record {
      reading = reading;
      behind = behind;
      least = omega (arith, upto, long, length-append news (first.0 ++ more.0));
      history = history;
      legal = legal;
      onward = (first.0 ++ more.0, onward);
      right = record { within = omega (arith, upto); totals = totals ∙ ap last_totals (sym all) };
    }

-- a job without receipts and readings has read what it should
pub none_read : (has_reader : Bool) (receipts : List ReceiptData) (readings : List Reading) → receipts ≡ [] → readings ≡ [] → HasRead has_reader receipts readings
none_read true receipts readings none nothing =
    subst (λ (rs : List ReceiptData). AreReadAfter rs readings) (sym none) (subst (λ (rs : List Reading). AreReadAfter [] rs) (sym nothing) tt)
none_read false receipts readings none nothing = nothing

one_after : (receipts : List ReceiptData) (readings : List Reading) (receipt : ReceiptData) (reading : Reading) → AreReadAfter receipts readings → receipt.place < reading.upto
    → AreReadAfter (receipts ++ receipt ∷ []) (readings ++ reading ∷ [])
one_after [] [] receipt reading so_far later = (later, tt)
one_after [] (r ∷ readings) receipt reading so_far later = absurd so_far
one_after (r ∷ receipts) [] receipt reading so_far later = absurd so_far
one_after (x ∷ receipts) (y ∷ readings) receipt reading so_far later = (so_far.0, one_after receipts readings receipt reading so_far.1 later)

-- a job has read what it should after one more operation, if it then reads on, in case it has a reader
pub read_more : (has_reader : Bool) (receipts after : List ReceiptData) (readings behind : List Reading) (seen : ℕ) (news : List EntryData) (op : OpData) → Asks receipts after seen op → length news ≡ seen
    → ReadsOn has_reader news readings behind → HasRead has_reader receipts readings → HasRead has_reader after behind
read_more true receipts after readings behind seen news op asks same reads so_far =
    let later : asks.receipt.place < reads.reading.upto = omega (arith, asks.place, same, reads.least) in
    subst (λ (rs : List ReceiptData). AreReadAfter rs behind) (sym asks.behind)
    (subst (λ (rs : List Reading). AreReadAfter (receipts ++ asks.receipt ∷ []) rs) (sym reads.behind) (one_after receipts readings asks.receipt reads.reading so_far later))
read_more false receipts after readings behind seen news op asks same reads so_far = reads ∙ so_far

-- the same for the states of a worker: before a submit, after it, and after the reading
pub submitted_read : {F : Type 0} (old asked read : WorkerData F) (news : List EntryData) {op : OpData} → Asks old.receipts asked.receipts asked.seat.seen op → length news ≡ asked.seat.seen
    → asked.has_reader ≡ old.has_reader → asked.readings ≡ old.readings → ReadsOn asked.has_reader news asked.readings read.readings
    → read.has_reader ≡ asked.has_reader → read.receipts ≡ asked.receipts
    → HasRead old.has_reader old.receipts old.readings → HasRead read.has_reader read.receipts read.readings
submitted_read old asked read news {op} asks same reader readings reads still receipts so_far =
    let before : HasRead asked.has_reader old.receipts asked.readings =
    subst (λ (rs : List Reading). HasRead asked.has_reader old.receipts rs) (sym readings) (subst (λ (has : Bool). HasRead has old.receipts old.readings) (sym reader) so_far) in
    let here : HasRead asked.has_reader asked.receipts read.readings =
    read_more asked.has_reader old.receipts asked.receipts asked.readings read.readings asked.seat.seen news op asks same reads before in
    subst (λ (has : Bool). HasRead has read.receipts read.readings) (sym still) (subst (λ (rs : List ReceiptData). HasRead asked.has_reader rs read.readings) (sym receipts) here)

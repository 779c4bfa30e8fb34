-- A step under the lock: its entry, receipt, fault and news follow from the history before it.
use Rattle.std.proofs.Common.{◌≡◌, ◌∙◌, ◌⊎◌, inl, inr, ℕ, suc, ◌+◌, ◌<◌, ◌≤◌, List, [], ◌∷◌, ◌++◌, length, Result, Ok, Err, refl, sym, ap, arith, subst}
use Rattle.std.proofs.lemmas.List.{length_push}
use Rattle.covbook.specs.declared.book.BookFault.{BookFault}
use Rattle.covbook.specs.declared.book.BookFault.TheVariants as faults
use Rattle.covbook.specs.Op.{OpData, EntryData, ReceiptData}
use Rattle.covbook.specs.Step.{ComesNext, IsLegal, answer_of, next_entry, receipt_of, table_of, ops_in, max_entries}
use Rattle.covlock.specs.Call.{IsNewsOf}
use Rattle.covlock.specs.Weight.{weight_at, weight_below}

-- a step is made ready on the history that was there before: so its entry comes right after that history
pub entry_after : (history ready after : List EntryData) (job asker : ℕ) (op asked : OpData) → ready ≡ history → job ≡ asker → op ≡ asked
    → after ≡ ready ++ next_entry ready job op ∷ [] → after ≡ history ++ next_entry history asker asked ∷ []
entry_after history ready after job asker op asked same is_job is_op grown =
    subst (λ (h : List EntryData). after ≡ h ++ next_entry h asker asked ∷ []) same
    (subst (λ (j : ℕ). after ≡ ready ++ next_entry ready j asked ∷ []) is_job
    (subst (λ (o : OpData). after ≡ ready ++ next_entry ready job o ∷ []) is_op grown))

-- likewise, its receipt has the place and the answer that follow from that history
pub told_later : (history ready : List EntryData) (job : ℕ) (op asked : OpData) (told : ReceiptData) → ready ≡ history → op ≡ asked
    → told ≡ receipt_of (length ready) (next_entry ready job op) → told ≡ record { place = length history; op = asked; answer = answer_of (table_of (ops_in history)) asked }
told_later history ready job op asked told same is_op is_told =
    subst (λ (h : List EntryData). told ≡ record { place = length h; op = asked; answer = answer_of (table_of (ops_in h)) asked }) same
    (subst (λ (o : OpData). told ≡ receipt_of (length ready) (next_entry ready job o)) is_op is_told)

pub ok_is_no_err : {T E : Type 0} (value : T) (fault : E) → ◌≡◌ {A = Result T E} (Ok value) (Err fault) → ⊥
ok_is_no_err value fault is = cc

pub err_tells : {T E : Type 0} (told fault : E) → ◌≡◌ {A = Result T E} (Err told) (Err fault) → told ≡ fault
err_tells told fault is = cc

-- there is no reason for a refusal if the history isn't full and has the entries that the seat has seen
pub takes_more : (entries seen : ℕ) → entries < max_entries → seen ≤ entries → (entries ≡ max_entries) ⊎ (entries < seen) → ⊥
takes_more entries seen few long (inl is) = omega arith
takes_more entries seen few long (inr is) = omega arith

-- then an answer other than this fault is right: neither the fault nor its cause is there
pub is_not_full : {T E : Type 0} (answer : Result T E) (fault : E) (entries seen : ℕ) → (answer ≡ Err fault → ⊥) → entries < max_entries → seen ≤ entries
    → (answer ≡ Err fault → (entries ≡ max_entries) ⊎ (entries < seen)) × ((entries ≡ max_entries) ⊎ (entries < seen) → answer ≡ Err fault)
is_not_full answer fault entries seen other few long = (λ is. absurd (other is), λ full. absurd (takes_more entries seen few long full))

pub no_room_is_not_full : {T : Type 0} → ◌≡◌ {A = Result T BookFault} (Err faults.Memory) (Err faults.Full) → ⊥
no_room_is_not_full is = cc

-- the noted history is the one that the entry was made ready for, so this entry comes next
pub comes_next : (noted ready : List EntryData) (entry made : EntryData) → noted ≡ ready → entry ≡ made → made ≡ next_entry ready made.job made.op → ComesNext noted entry
comes_next noted ready entry made same is_made next =
    subst (λ (e : EntryData). ComesNext noted e) (sym is_made) (subst (λ (h : List EntryData). ComesNext h made) (sym same) next)

-- with this entry, the noted history is the history after the step
pub noted_is : (noted ready after news : List EntryData) (entry made : EntryData) → noted ≡ ready → entry ≡ made → made ≡ next_entry ready made.job made.op
    → after ≡ ready ++ next_entry ready made.job made.op ∷ [] → news ≡ noted ++ entry ∷ [] → news ≡ after
noted_is noted ready after news entry made same is_made next grown is_news =
    is_news ∙ ap (λ (h : List EntryData). h ++ entry ∷ []) same ∙ ap (λ (e : EntryData). ready ++ e ∷ []) (is_made ∙ next) ∙ sym grown

-- if the news hold the history after the step, they are news of the call
news_of : (job : ℕ) (asked : OpData) (told : ReceiptData) (before after news : List EntryData) → news ≡ after → IsLegal after → after ≡ before ++ next_entry before job asked ∷ []
    → told ≡ record { place = length before; op = asked; answer = answer_of (table_of (ops_in before)) asked } → IsNewsOf job asked told news
news_of job asked told before after news is_after legal grown is_told =
    let entry = next_entry before job asked in
    let ends : news ≡ before ++ entry ∷ [] = is_after ∙ grown in
    let long : length news ≡ length (before ++ entry ∷ []) = ap (λ (xs : List EntryData). length xs) ends in
    let place : told.place ≡ length before = ap (λ (r : ReceiptData). r.place) is_told in
    record {
      legal = subst (λ (h : List EntryData). IsLegal h) (sym is_after) legal;
      before = before;
      entry = entry;
      ends = ends;
      own = refl;
      asks = refl;
      answer = sym (ap (λ (r : ReceiptData). r.answer) is_told);
      place = omega (arith, long, place, length_push before entry);
    }

-- a step is made ready on the history that was there before, and its news hold the history after it: so they are news of the call
pub news_told : (asker : ℕ) (asked : OpData) (made : EntryData) (told : ReceiptData) (history ready after news : List EntryData) → ready ≡ history → made.job ≡ asker → made.op ≡ asked
    → after ≡ ready ++ next_entry ready made.job made.op ∷ [] → IsLegal after → told ≡ receipt_of (length ready) (next_entry ready made.job made.op) → news ≡ after → IsNewsOf asker asked told news
news_told asker asked made told history ready after news same is_job is_op grown legal is_told is_after =
    news_of asker asked told history after news is_after legal (entry_after history ready after made.job asker made.op asked same is_job is_op grown) (told_later history ready made.job made.op asked told same is_op is_told)

next_is : (n m : ℕ) → n ≡ m + 1 → n ≡ suc m
next_is n m e = omega (arith, e)

-- the count of the calls of a history with one more entry has the weight of this entry's place more
pub counted_next : (before after : List EntryData) (total next place : ℕ) → total ≡ weight_below (length before) → length after ≡ length before + 1 → place ≡ length before → next ≡ total + weight_at place
    → next ≡ weight_below (length after)
counted_next before after total next place counted long here adds =
    let more : weight_below (length after) ≡ weight_below (length before) + weight_at (length before) = ap (λ (n : ℕ). weight_below n) (next_is (length after) (length before) long) in
    omega (arith, counted, here, adds, more)

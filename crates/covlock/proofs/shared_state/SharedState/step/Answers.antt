use Rattle.std.proofs.Common.{◌≡◌, ◌∙◌, ◌≤◌, inr, List, [], ◌∷◌, ◌++◌, length, arith, ap, sym, refl, subst}
use Rattle.std.proofs.lemmas.List.{length-append}
use Rattle.std.proofs.lemmas.Result.{err_from_is_err_and}
use Rattle.covbook.specs.declared.book.BookFault.TheVariants as faults
use Rattle.covbook.specs.Op.{EntryData, ReceiptData}
use Rattle.covbook.specs.EntryView.{entry_data, receipt_data}
use Rattle.covbook.specs.Step.{IsLegal, max_entries, next_entry}
use Rattle.covbook.specs.View.{op_data}
use Rattle.covnews.specs.Publisher.{PublisherData}
use Rattle.covlock.specs.Weight.{weight_below}
use Rattle.covlock.proofs.Steps.{comes_next, counted_next, entry_after, err_tells, is_not_full, news_told, no_room_is_not_full, noted_is, ok_is_no_err, told_later}
use Rattle.covlock.proofs.shared_state.SharedState.step.Goals as goal

pub returns-clause-entry : goal.returns-clause-entry
returns-clause-entry g c =
    let made = c.in_ok-ready.ready in
    let for = c.in_ok-ready.ensures.ready in
    entry_after c.args.self.now c.ready.new.self.entries c.finish-receipt.new.self.entries made.entry.job c.args.seat.now.job made.entry.op (op_data c.args.op.now)
    (c.in_ok-ready.ensures.same.entries ∙ c.self.view_is) (for.job ∙ c.job.ensures) for.op c.finish-receipt.ensures.entry

pub returns-clause-seen : goal.returns-clause-seen
returns-clause-seen g c =
    let place : c.finish-receipt.result.place ≡ length c.ready.new.self.entries = ap (λ (r : ReceiptData). r.place) c.finish-receipt.ensures.receipt in
    let same : length c.ready.new.self.entries ≡ length c.self.inside.book.entries = ap (λ (xs : List EntryData). length xs) c.in_ok-ready.ensures.same.entries in
    omega (arith, place, same, c.len.ensures.value, c.seen.ensures, c.if-len-seen.false)

pub count_call-requires-clause-few : goal.count_call-requires-clause-few
count_call-requires-clause-few g c =
    let place : c.finish-receipt.result.place ≡ length c.ready.new.self.entries = ap (λ (r : ReceiptData). r.place) c.finish-receipt.ensures.receipt in
    omega (arith, place, c.in_ok-ready.ensures.ready.ready.room.few)

pub count_call-requires-clause-seen : goal.count_call-requires-clause-seen
count_call-requires-clause-seen g c =
    let place : c.finish-receipt.result.place ≡ length c.ready.new.self.entries = ap (λ (r : ReceiptData). r.place) c.finish-receipt.ensures.receipt in
    let same : length c.ready.new.self.entries ≡ length c.self.inside.book.entries = ap (λ (xs : List EntryData). length xs) c.in_ok-ready.ensures.same.entries in
    omega (arith, place, same, c.len.ensures.value, c.seen.ensures, c.if-len-seen.false)

pub count_call-requires-clause-news : goal.count_call-requires-clause-news
count_call-requires-clause-news g c =
    let made = c.in_ok-ready.ready.entry in
    let published =
    noted_is c.self.inside.publisher.noted c.ready.new.self.entries c.finish-receipt.new.self.entries c.publish-news.result (entry_data c.entry.result.now) made
    (c.self.invariant.all_noted ∙ sym c.in_ok-ready.ensures.same.entries) c.entry.ensures c.in_ok-ready.ensures.ready.ready.next c.finish-receipt.ensures.entry
    (c.publish-news.ensures.news ∙ ap (λ (p : PublisherData). p.noted) c.in-Some.ensures.noted) in
    news_told c.args.seat.now.job (op_data c.finish-receipt.result.op) made (receipt_data c.finish-receipt.result) c.args.self.now c.ready.new.self.entries c.finish-receipt.new.self.entries c.publish-news.result
    (c.in_ok-ready.ensures.same.entries ∙ c.self.view_is) (c.in_ok-ready.ensures.ready.job ∙ c.job.ensures) (sym (ap (λ (r : ReceiptData). r.op) c.finish-receipt.ensures.receipt)) c.finish-receipt.ensures.entry
    c.finish-receipt.ensures.legal c.finish-receipt.ensures.receipt published

pub finish-receipt-requires : goal.finish-receipt-requires
finish-receipt-requires g c = c.in_ok-ready.ensures.ready.ready

pub returns-clause-seat : goal.returns-clause-seat
returns-clause-seat g c = c.count_call.ensures.seat

pub returns-then-len-seen-clause-seat : goal.returns-then-len-seen-clause-seat
returns-then-len-seen-clause-seat g c = refl

pub returns-clause-told : goal.returns-clause-told
returns-clause-told g c =
    let made = c.in_ok-ready.ready in
    let for = c.in_ok-ready.ensures.ready in
    let lay : length c.self.inside.book.entries ≡ length c.args.self.now = ap (λ (xs : List EntryData). length xs) c.self.view_is in
    let same : length c.ready.new.self.entries ≡ length c.self.inside.book.entries = ap (λ (xs : List EntryData). length xs) c.in_ok-ready.ensures.same.entries in
    record {
      legal = subst (λ (h : List EntryData). IsLegal h) c.self.view_is c.self.invariant.legal;
      few = omega (arith, lay, same, for.ready.room.few);
      receipt = told_later c.args.self.now c.ready.new.self.entries made.entry.job made.entry.op (op_data c.args.op.now) (receipt_data c.finish-receipt.result)
          (c.in_ok-ready.ensures.same.entries ∙ c.self.view_is) for.op c.finish-receipt.ensures.receipt;
    }

pub returns-in_err-ready-clause-told : goal.returns-in_err-ready-clause-told
returns-in_err-ready-clause-told g c = let p = err_from_is_err_and c.from_residual.result c.from_residual.ensures.1 in rw p.1 tt

pub returns-in_err-ready-clause-entry : goal.returns-in_err-ready-clause-entry
returns-in_err-ready-clause-entry g c = let p = err_from_is_err_and c.from_residual.result c.from_residual.ensures.1 in rw p.1 tt

pub returns-in_err-ready-clause-seat : goal.returns-in_err-ready-clause-seat
returns-in_err-ready-clause-seat g c = let p = err_from_is_err_and c.from_residual.result c.from_residual.ensures.1 in rw p.1 refl

pub returns-in_err-ready-clause-seen : goal.returns-in_err-ready-clause-seen
returns-in_err-ready-clause-seen g c = let p = err_from_is_err_and c.from_residual.result c.from_residual.ensures.1 in rw p.1 tt

pub returns-in_err-ready-clause-refused : goal.returns-in_err-ready-clause-refused
returns-in_err-ready-clause-refused g c =
    let p = err_from_is_err_and c.from_residual.result c.from_residual.ensures.1 in
    rw p.1 (c.in_err-ready.ensures.same.entries ∙ c.self.view_is)

pub returns-clause-full : goal.returns-clause-full
returns-clause-full g c =
    let lay : length c.self.inside.book.entries ≡ length c.args.self.now = ap (λ (xs : List EntryData). length xs) c.self.view_is in
    let same : length c.ready.new.self.entries ≡ length c.self.inside.book.entries = ap (λ (xs : List EntryData). length xs) c.in_ok-ready.ensures.same.entries in
    is_not_full _ faults.Full (length c.args.self.now) c.args.seat.now.seen (ok_is_no_err _ faults.Full)
    (omega (arith, lay, same, c.in_ok-ready.ensures.ready.ready.room.few))
    (omega (arith, lay, c.len.ensures.value, c.seen.ensures, c.if-len-seen.false))

-- if the entry isn't noted, the fault isn't `Full`, and neither is the history full
pub returns-in_default-clause-full : goal.returns-in_default-clause-full
returns-in_default-clause-full g c =
    let lay : length c.self.inside.book.entries ≡ length c.args.self.now = ap (λ (xs : List EntryData). length xs) c.self.view_is in
    let same : length c.ready.new.self.entries ≡ length c.self.inside.book.entries = ap (λ (xs : List EntryData). length xs) c.in_ok-ready.ensures.same.entries in
    is_not_full _ faults.Full (length c.args.self.now) c.args.seat.now.seen no_room_is_not_full
    (omega (arith, lay, same, c.in_ok-ready.ensures.ready.ready.room.few))
    (omega (arith, lay, c.len.ensures.value, c.seen.ensures, c.if-len-seen.false))

pub returns-then-len-seen-clause-full : goal.returns-then-len-seen-clause-full
returns-then-len-seen-clause-full g c =
    let lay : length c.self.inside.book.entries ≡ length c.args.self.now = ap (λ (xs : List EntryData). length xs) c.self.view_is in
    ((λ is. inr (omega (arith, lay, c.len.ensures.value, c.seen.ensures, c.if-len-seen.true))), (λ it. refl))

pub returns-then-len-seen-clause-most : goal.returns-then-len-seen-clause-most
returns-then-len-seen-clause-most g c = λ most. refl

-- the history isn't shorter than what the seat has seen, so it is full
pub returns-in_err-ready-clause-most : goal.returns-in_err-ready-clause-most
returns-in_err-ready-clause-most g c =
    let p = err_from_is_err_and c.from_residual.result c.from_residual.ensures.1 in
    rw (p.1, p.2) (λ most. err_tells _ faults.Full (c.in_err-ready.ensures.full.1 (omega (arith, c.len.ensures.value, c.len.ensures.few, c.seen.ensures, c.if-len-seen.false, most))))

pub returns-in_default-clause-most : goal.returns-in_default-clause-most
returns-in_default-clause-most g c =
    let same : length c.ready.new.self.entries ≡ length c.self.inside.book.entries = ap (λ (xs : List EntryData). length xs) c.in_ok-ready.ensures.same.entries in
    λ most. absurd (omega (arith, same, c.len.ensures.value, c.seen.ensures, c.if-len-seen.false, c.in_ok-ready.ensures.ready.ready.room.few, most))

pub invariant_of-self : goal.invariant_of-self
invariant_of-self g c = record {
  legal = c.in_err-ready.ensures.legal;
  few = subst (λ (xs : List EntryData). length xs ≤ max_entries) (sym c.in_err-ready.ensures.same.entries) c.self.invariant.few;
  all_noted = c.self.invariant.all_noted ∙ sym c.in_err-ready.ensures.same.entries;
  all_published = c.self.invariant.all_published ∙ sym c.in_err-ready.ensures.same.entries;
  counted = c.self.invariant.counted ∙ sym (ap (λ (xs : List EntryData). weight_below (length xs)) c.in_err-ready.ensures.same.entries);
  no_part = c.self.invariant.no_part;
  no_amount = c.self.invariant.no_amount;
}

pub note-requires-clause-few : goal.note-requires-clause-few
note-requires-clause-few g c =
    let same : length c.self.inside.publisher.noted ≡ length c.self.inside.book.entries = ap (λ (xs : List EntryData). length xs) c.self.invariant.all_noted in
    let ready : length c.ready.new.self.entries ≡ length c.self.inside.book.entries = ap (λ (xs : List EntryData). length xs) c.in_ok-ready.ensures.same.entries in
    omega (arith, same, ready, c.in_ok-ready.ensures.ready.ready.room.few)

pub note-requires-clause-next : goal.note-requires-clause-next
note-requires-clause-next g c =
    comes_next c.self.inside.publisher.noted c.ready.new.self.entries (entry_data c.entry.result.now) c.in_ok-ready.ready.entry
    (c.self.invariant.all_noted ∙ sym c.in_ok-ready.ensures.same.entries) c.entry.ensures c.in_ok-ready.ensures.ready.ready.next

-- if the entry isn't noted, the history is unchanged, and all of it is still noted and published
pub invariant_of-self-in_default : goal.invariant_of-self-in_default
invariant_of-self-in_default g c = record {
  legal = c.in_ok-ready.ensures.legal;
  few = subst (λ (xs : List EntryData). length xs ≤ max_entries) (sym c.in_ok-ready.ensures.same.entries) c.self.invariant.few;
  all_noted = ap (λ (p : PublisherData). p.noted) c.in_default.ensures.none ∙ c.self.invariant.all_noted ∙ sym c.in_ok-ready.ensures.same.entries;
  all_published = ap (λ (p : PublisherData). p.published) c.in_default.ensures.none ∙ c.self.invariant.all_published ∙ sym c.in_ok-ready.ensures.same.entries;
  counted = c.self.invariant.counted ∙ sym (ap (λ (xs : List EntryData). weight_below (length xs)) c.in_ok-ready.ensures.same.entries);
  no_part = c.self.invariant.no_part;
  no_amount = c.self.invariant.no_amount;
}

pub returns-clause-published : goal.returns-clause-published
returns-clause-published g c =
    noted_is c.self.inside.publisher.noted c.ready.new.self.entries c.finish-receipt.new.self.entries c.publish-news.result (entry_data c.entry.result.now) c.in_ok-ready.ready.entry
    (c.self.invariant.all_noted ∙ sym c.in_ok-ready.ensures.same.entries) c.entry.ensures c.in_ok-ready.ensures.ready.ready.next c.finish-receipt.ensures.entry
    (c.publish-news.ensures.news ∙ ap (λ (p : PublisherData). p.noted) c.in-Some.ensures.noted)

pub returns-clause-news : goal.returns-clause-news
returns-clause-news g c =
    let made = c.in_ok-ready.ready.entry in
    news_told c.args.seat.now.job (op_data c.args.op.now) made (receipt_data c.finish-receipt.result) c.args.self.now c.ready.new.self.entries c.finish-receipt.new.self.entries c.publish-news.result
    (c.in_ok-ready.ensures.same.entries ∙ c.self.view_is) (c.in_ok-ready.ensures.ready.job ∙ c.job.ensures) c.in_ok-ready.ensures.ready.op c.finish-receipt.ensures.entry c.finish-receipt.ensures.legal
    c.finish-receipt.ensures.receipt (returns-clause-published g c)

pub invariant_of-self-2 : goal.invariant_of-self-2
invariant_of-self-2 g c =
    let made = c.in_ok-ready.ready in
    let behind = next_entry c.ready.new.self.entries made.entry.job made.entry.op ∷ [] in
    let same : length c.ready.new.self.entries ≡ length c.self.inside.book.entries = ap (λ (xs : List EntryData). length xs) c.in_ok-ready.ensures.same.entries in
    let grown : length c.finish-receipt.new.self.entries ≡ length (c.ready.new.self.entries ++ behind) = ap (λ (xs : List EntryData). length xs) c.finish-receipt.ensures.entry in
    let place : c.finish-receipt.result.place ≡ length c.ready.new.self.entries = ap (λ (r : ReceiptData). r.place) c.finish-receipt.ensures.receipt in
    let noted : c.note.new.self.noted ≡ c.finish-receipt.new.self.entries = sym c.publish-news.ensures.news ∙ returns-clause-published g c in
    record {
      legal = c.finish-receipt.ensures.legal;
      few = omega (arith, same, grown, length-append c.ready.new.self.entries behind, c.in_ok-ready.ensures.ready.ready.room.few);
      all_noted = ap (λ (p : PublisherData). p.noted) c.publish-news.ensures.published ∙ noted;
      all_published = ap (λ (p : PublisherData). p.published) c.publish-news.ensures.published ∙ noted;
      counted =
          counted_next c.self.inside.book.entries c.finish-receipt.new.self.entries c.self.inside.count.total c.count_call.new.count.total c.finish-receipt.result.place c.self.invariant.counted
          (omega (arith, same, grown, length-append c.ready.new.self.entries behind)) (omega (arith, place, same)) c.count_call.ensures.total;
      no_part = c.self.invariant.no_part;
      no_amount = c.self.invariant.no_amount;
    }

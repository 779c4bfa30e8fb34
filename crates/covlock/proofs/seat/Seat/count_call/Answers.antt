use Rattle.std.proofs.Common.{◌≡◌, ◌∙◌, ◌+◌, ◌≤◌, List, ap, arith, subst, sym}
use Rattle.std.specs.Prelude.{vec_capacity}
use Rattle.covbook.specs.declared.entry.Receipt.{Receipt}
use Rattle.covbook.specs.EntryView.{receipt_data}
use Rattle.covbook.specs.Kept.{IsPrefix}
use Rattle.covbook.specs.Op.{EntryData, ReceiptData}
use Rattle.covbook.specs.Step.{max_entries}
use Rattle.covlock.specs.Call.{IsNewsOf}
use Rattle.covlock.specs.Latest.{history_of}
use Rattle.covlock.specs.Logs.{IsLogged}
use Rattle.covlock.specs.Seat.{SeatData, after_call}
use Rattle.covlock.proofs.Calls.{news_longer, room_left, seat_after, shown_after}
use Rattle.covlock.proofs.seat.Seat.count_call.Goals as goal

pub push_reserved-requires : goal.push_reserved-requires
push_reserved-requires g c =
    let inside = c.self.inside in
    let same : inside.seen ≡ c.args.self.now.seen = ap (λ (s : SeatData). s.seen) c.self.view_is in
    room_left inside.receipts.items (λ r. receipt_data r.value) inside.job inside.calls inside.seen (history_of inside.latest) inside.share.amount inside.receipts.len (vec_capacity inside.receipts) c.args.receipt.now.place
    c.self.invariant.2 inside.receipts.ok.0 c.self.invariant.1 (omega (arith, same, c.requires.seen)) c.requires.few

pub later-requires : goal.later-requires
later-requires g c =
    let inside = c.self.inside in
    let told : ReceiptData = receipt_data c.args.receipt.now in
    let same : inside.seen ≡ c.args.self.now.seen = ap (λ (s : SeatData). s.seen) c.self.view_is in
    news_longer _ inside.calls inside.seen (history_of inside.latest) c.args.news.now c.args.self.now.job told.op told c.self.invariant.2.kept c.requires.news (omega (arith, same, c.requires.seen))

pub invariant_of-self : goal.invariant_of-self
invariant_of-self g c =
    let inside = c.self.inside in
    let told : ReceiptData = receipt_data c.args.receipt.now in
    let same : inside.seen ≡ c.args.self.now.seen = ap (λ (s : SeatData). s.seen) c.self.view_is in
    let own : IsNewsOf inside.job told.op told c.args.news.now = subst (λ (s : SeatData). IsNewsOf s.job told.op told c.args.news.now) (sym c.self.view_is) c.requires.news in
    let next = c.push_reserved.new.self in
    let room : vec_capacity next ≡ vec_capacity inside.receipts = c.push_reserved.ensures.capacity in
    let prefix : IsPrefix (history_of inside.latest) c.later.result = c.later.ensures.onward in
    let news : List EntryData = c.later.result in
    let asks : IsNewsOf inside.job told.op told news = subst (λ (h : List EntryData). IsNewsOf inside.job told.op told h) (sym c.later.ensures.same) own in (
      c.add.ensures.parts ∙ c.self.invariant.0,
      omega (arith, room, c.self.invariant.1),
      seat_after inside.receipts.items next.items c.of.result (λ r. receipt_data r.value) inside.job inside.calls inside.seen (history_of inside.latest) news inside.share.amount c.add.new.share.amount told
          c.push_reserved.ensures.items (ap (λ (r : Receipt g.row.A.Denot). receipt_data r) c.of.ensures) c.self.invariant.2 asks c.requires.few (omega (arith, same, c.requires.seen)) prefix c.add.ensures.amount,
    )

-- the seat has the call's receipt too
pub returns-clause-seat : goal.returns-clause-seat
returns-clause-seat g c =
    let inside = c.self.inside in
    let told : ReceiptData = receipt_data c.args.receipt.now in
    ap (λ (rs : List ReceiptData). record { job = inside.job; calls = inside.calls + 1; seen = told.place + 1; receipts = rs })
    (shown_after inside.receipts.items c.push_reserved.new.self.items c.of.result (λ r. receipt_data r.value) told c.push_reserved.ensures.items (ap (λ (r : Receipt g.row.A.Denot). receipt_data r) c.of.ensures))
    ∙ ap (λ (s : SeatData). after_call s told) c.self.view_is

-- there are no more calls than entries that the seat has seen
pub overflow_add-self : goal.overflow_add-self
overflow_add-self g c = let logged = c.self.invariant.2 in omega (arith, logged.each, logged.few)

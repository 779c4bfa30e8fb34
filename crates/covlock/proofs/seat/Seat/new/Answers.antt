use Rattle.covbook.specs.EntryView.{receipt_data}
use Rattle.covlock.proofs.Calls.{seat_before}
use Rattle.covlock.proofs.seat.Seat.new.Goals as goal

pub invariant_of-result : goal.invariant_of-result
invariant_of-result g c =
    let receipts = c.in_ok-receipts.receipts in
    (c.requires.part, c.in_ok-receipts.ensures.capacity, seat_before receipts.items (λ r. receipt_data r.value) c.args.job c.args.share.amount c.in_ok-receipts.ensures.items c.requires.none)

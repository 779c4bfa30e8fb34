use Rattle.std.proofs.Common.{◌≡◌, ◌∙◌, ◌++◌, [], ◌∷◌, List, map, sym, ap, subst}
use Rattle.std.proofs.lemmas.List.{map-append}
use Rattle.covbook.specs.EntryView.{receipt_data}
use Rattle.covbook.specs.Op.{ReceiptData}
use Rattle.covbook.specs.declared.entry.Receipt.{Receipt}
use Rattle.covlock.specs.Seat.{SeatData, after_call}
use Rattle.covworkers.specs.Work.{AreReceiptsOf}
use Rattle.covworkers.proofs.Asking.{one_more_kept}
use Rattle.covworkers.proofs.worker.Worker.ask.Goals as goal

-- the receipt is kept, as the seat has it
pub invariant_of-self-2 : goal.invariant_of-self-2
invariant_of-self-2 g c =
    let shown : g.row.P.Denot → ReceiptData = λ p. receipt_data (g.P.Keep.shows p) in
    let seat = c.self.inside.seat in
    let told : ReceiptData = receipt_data c.in_ok-receipt.field-0.receipt in
    let before : List ReceiptData = map shown c.self.inside.receipts.items in
    let items : map shown c.push_reserved.new.self.items ≡ before ++ told ∷ [] =
    ap (map shown) (c.push_reserved.ensures.items ∙ ap (λ (xs : List g.row.P.Denot). xs ++ c.keep.result ∷ []) c.reserve.ensures.items)
    ∙ map-append shown c.self.inside.receipts.items (c.keep.result ∷ []) ∙ ap (λ (r : Receipt g.row.A.Denot). before ++ receipt_data r ∷ []) c.keep.ensures in
    subst (λ (s : SeatData). AreReceiptsOf s (map shown c.push_reserved.new.self.items)) (sym c.in_ok-receipt.ensures.seat)
    (subst (λ (rs : List ReceiptData). AreReceiptsOf (after_call seat told) rs) (sym items) (one_more_kept seat before told c.self.invariant))

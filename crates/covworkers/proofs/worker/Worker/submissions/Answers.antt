use Rattle.std.proofs.Common.{◌∙◌, length, sym, ap}
use Rattle.std.proofs.lemmas.List.{length-map}
use Rattle.covbook.specs.EntryView.{receipt_data}
use Rattle.covbook.specs.Op.{ReceiptData}
use Rattle.covworkers.specs.Work.{WorkerData}
use Rattle.covworkers.proofs.worker.Worker.submissions.Goals as goal

pub returns : goal.returns
returns g c =
    let shown : g.row.P.Denot → ReceiptData = λ p. receipt_data (g.P.Keep.shows p) in
    let receipts = c.self.inside.receipts in
    c.len.ensures ∙ receipts.ok.0 ∙ sym (length-map receipts.items shown) ∙ ap (λ (w : WorkerData g.row.F.Denot). length w.receipts) c.self.view_is

use Rattle.std.proofs.Common.{length, ap, ◌∙◌}
use Rattle.covbook.specs.ChangeView.{change_data}
use Rattle.covbook.specs.EntryView.{entry_data}
use Rattle.covbook.specs.Held.{BookData}
use Rattle.covbook.specs.Op.{ReceiptData}
use Rattle.covbook.proofs.Halves.{ready_for}
use Rattle.covbook.proofs.book.Book.ready_to_change.Goals as goal

pub returns : goal.returns
returns g c =
    let at = ap (λ (r : ReceiptData). r.place) c.in_ok-receipt.ensures ∙ ap (λ (b : BookData g.row.T.Denot). length b.entries) c.self.view_is in
    ready_for g.T.Table.plans g.T.Table.renames c.args.self.now (entry_data c.args.entry) c.in_ok-receipt.receipt.place (change_data c.args.change) c.new.result c.requires.room c.requires.next c.requires.planned at
    c.new.ensures.place c.new.ensures.entry c.new.ensures.change c.new.ensures.after

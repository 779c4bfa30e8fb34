use Rattle.covbook.specs.View.{answer_data, op_data}
use Rattle.covbook.proofs.Halves.{next_with, still_after}
use Rattle.covbook.proofs.book.Book.ready_to_note.Goals as goal

pub ready_to_change-requires-clause-next : goal.ready_to_change-requires-clause-next
ready_to_change-requires-clause-next g c =
    let book = c.self.inside in
    let after = still_after g.T.Table.shown book.store book.accepted book.history.room book.history.entries c.args.self.now (op_data c.args.op) c.totals-after.result c.self.invariant c.self.view_is c.totals-after.ensures.value c.requires.still in
    next_with c.args.self.now.entries c.args.job (op_data c.args.op) (answer_data c.args.answer) c.totals-after.result c.requires.answer after

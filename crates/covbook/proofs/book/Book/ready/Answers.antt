use Rattle.covbook.specs.View.{op_data}
use Rattle.covbook.proofs.Halves.{told_after}
use Rattle.covbook.proofs.book.Book.ready.Goals as goal

pub returns-clause-after : goal.returns-clause-after
returns-clause-after g c =
    told_after g.T.Table.plans g.T.Table.renames c.args.self.now c.made_ready.new.self c.args.job (op_data c.args.op.now) c.in_ok-made_ready.field-0 c.in_ok-made_ready.ensures.same c.in_ok-made_ready.ensures.ready

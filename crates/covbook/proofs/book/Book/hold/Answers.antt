use Rattle.covbook.specs.View.{op_data}
use Rattle.covbook.proofs.Runs.{held_book, plan_here}
use Rattle.covbook.proofs.book.Book.hold.Goals as goal

pub commit-requires : goal.commit-requires
commit-requires g c =
    let book = c.self.inside in
    plan_here g.T.Table.shown g.T.Table.plans g.T.Table.renames book.store book.history.room book.history.entries c.args.self.now (op_data c.args.entry.op) c.args.plan c.self.view_is c.requires.planned

pub invariant_of-self : goal.invariant_of-self
invariant_of-self g c =
    let book = c.self.inside in
    held_book g.T.Table.shown g.T.Table.plans g.T.Table.renames book.store c.commit.new.self book.accepted book.history.room book.history.entries c.args.self.now c.append.new.self.entries _ c.args.plan c.self.invariant c.requires.lawful c.self.view_is c.requires.room c.requires.next c.requires.planned
    c.commit.ensures.stands c.append.ensures

pub returns-clause-legal : goal.returns-clause-legal
returns-clause-legal g c = (invariant_of-self g c).legal

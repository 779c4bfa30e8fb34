use Rattle.covbook.specs.View.{op_data}
use Rattle.covbook.proofs.Runs.{renamed_book, renaming_here}
use Rattle.covbook.proofs.book.Book.rename.Goals as goal

pub commit_rename-requires : goal.commit_rename-requires
commit_rename-requires g c =
    let book = c.self.inside in
    renaming_here g.T.Table.shown g.T.Table.plans g.T.Table.renames book.store book.history.room book.history.entries c.args.self.now (op_data c.args.entry.op) c.args.renaming c.self.view_is c.requires.planned

pub invariant_of-self : goal.invariant_of-self
invariant_of-self g c =
    let book = c.self.inside in
    renamed_book g.T.Table.shown g.T.Table.plans g.T.Table.renames book.store c.commit_rename.new.self book.accepted book.history.room book.history.entries c.args.self.now c.append.new.self.entries _ c.args.renaming c.self.invariant c.requires.lawful c.self.view_is c.requires.room c.requires.next c.requires.planned
    c.commit_rename.ensures.stands c.append.ensures

pub returns-clause-legal : goal.returns-clause-legal
returns-clause-legal g c = (invariant_of-self g c).legal

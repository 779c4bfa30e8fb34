use Rattle.covbook.proofs.Runs.{noted_book}
use Rattle.covbook.proofs.book.Book.note.Goals as goal

pub invariant_of-self : goal.invariant_of-self
invariant_of-self g c =
    let book = c.self.inside in
    noted_book g.T.Table.shown book.store book.accepted book.history.room book.history.entries c.args.self.now c.append.new.self.entries _ c.self.invariant c.requires.lawful c.self.view_is c.requires.room c.requires.next c.requires.still
    c.append.ensures

pub returns-clause-legal : goal.returns-clause-legal
returns-clause-legal g c = (invariant_of-self g c).legal

use Rattle.std.proofs.Common.{◌≡◌, ℕ, List, sym, subst}
use Rattle.covtable.specs.Content.{content_at}
use Rattle.covtable.specs.Shown.{StandsFor}
use Rattle.covtable.specs.Table.{Table}
use Rattle.covtable.specs.Totals.{totals_of}
use Rattle.covtable.specs.Without.{without_test}
use Rattle.covbook.specs.EntryView.{entry_data}
use Rattle.covbook.proofs.Runs.{drop_here, dropped_book}
use Rattle.covbook.proofs.book.Book.drop_test.Goals as goal

pub drop_leaving-requires : goal.drop_leaving-requires
drop_leaving-requires g c = λ table stands.
    let book = c.self.inside in
    subst (λ (test : List ℕ). c.args.entry.after ≡ totals_of (content_at (without_test test table))) (sym c.get.ensures)
    (drop_here g.T.Table.shown g.T.Table.plans g.T.Table.renames book.store book.accepted book.history.room book.history.entries c.args.self.now (entry_data c.args.entry) c.args.test.now c.self.invariant c.self.view_is c.requires.next c.requires.planned
    table stands)

pub invariant_of-self : goal.invariant_of-self
invariant_of-self g c =
    let book = c.self.inside in
    let dropped : (table : Table) → StandsFor (g.T.Table.shown book.store) table → StandsFor (g.T.Table.shown c.drop_leaving.new.self) (without_test c.args.test.now table) =
    λ table stands. subst (λ (test : List ℕ). StandsFor (g.T.Table.shown c.drop_leaving.new.self) (without_test test table)) c.get.ensures (c.drop_leaving.ensures table stands) in
    dropped_book g.T.Table.shown g.T.Table.plans g.T.Table.renames book.store c.drop_leaving.new.self book.accepted book.history.room book.history.entries c.args.self.now c.append.new.self.entries _ c.args.test.now c.self.invariant c.requires.lawful c.self.view_is c.requires.room c.requires.next c.requires.planned
    dropped c.append.ensures

pub returns-clause-legal : goal.returns-clause-legal
returns-clause-legal g c = (invariant_of-self g c).legal

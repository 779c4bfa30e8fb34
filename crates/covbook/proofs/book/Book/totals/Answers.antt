use Rattle.std.proofs.Common.{ap, ◌∙◌}
use Rattle.covtable.specs.Totals.{totals_of}
use Rattle.covbook.specs.Held.{BookData}
use Rattle.covbook.specs.Step.{last_totals, ops_in, table_of, totals_at}
use Rattle.covbook.proofs.Runs.{last_told}
use Rattle.covbook.proofs.book.Book.totals.Goals as goal

pub returns-clause-last : goal.returns-clause-last
returns-clause-last g c =
    let book = c.self.inside in
    c.totals.ensures.value ∙ ap totals_of c.self.invariant.stands.content ∙ last_told book.history.entries c.self.invariant.legal ∙ ap (λ (b : BookData g.row.T.Denot). last_totals b.entries) c.self.view_is

pub returns-clause-table : goal.returns-clause-table
returns-clause-table g c =
    c.totals.ensures.value ∙ ap totals_of c.self.invariant.stands.content ∙ ap (λ (b : BookData g.row.T.Denot). totals_at (table_of (ops_in b.entries))) c.self.view_is

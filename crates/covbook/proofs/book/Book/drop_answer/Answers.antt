use Rattle.std.proofs.Common.{ap, ◌∙◌}
use Rattle.covtable.specs.Without.{sections_of_test, without_test}
use Rattle.covbook.specs.Held.{BookData}
use Rattle.covbook.specs.Op.{DroppedAnswer}
use Rattle.covbook.specs.Step.{ops_in, table_of, totals_at}
use Rattle.covbook.proofs.book.Book.drop_answer.Goals as goal

pub returns-clause-answer : goal.returns-clause-answer
returns-clause-answer g c =
    ap DroppedAnswer
    (c.after_drop-sections.ensures.sections (table_of (ops_in c.self.inside.history.entries)) c.self.invariant.stands
    ∙ ap (λ (b : BookData g.row.T.Denot). sections_of_test c.args.test.now (table_of (ops_in b.entries))) c.self.view_is)

pub returns-clause-totals : goal.returns-clause-totals
returns-clause-totals g c =
    c.after_drop-sections.ensures.totals (table_of (ops_in c.self.inside.history.entries)) c.self.invariant.stands
    ∙ ap (λ (b : BookData g.row.T.Denot). totals_at (without_test c.args.test.now (table_of (ops_in b.entries)))) c.self.view_is

pub returns-clause-bounds : goal.returns-clause-bounds
returns-clause-bounds g c = c.after_drop-sections.ensures.bounds

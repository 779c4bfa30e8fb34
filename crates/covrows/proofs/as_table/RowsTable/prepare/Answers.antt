use Rattle.std.proofs.Common.{ap, sym, ◌∙◌}
use Rattle.covdata.specs.Row.{rows_of}
use Rattle.covtable.specs.RefuseView.{refuse_data}
use Rattle.covtable.specs.Totals.{totals_of}
use Rattle.covrows.specs.View.{rows_in}
use Rattle.covrows.proofs.Stands.{clash_told, content_more, if_err, if_ok, refused_told}
use Rattle.covrows.proofs.as_table.RowsTable.prepare.Goals as goal

pub returns-clause-after : goal.returns-clause-after
returns-clause-after g c =
    if_ok (λ plan after table stands. after ∙ ap totals_of (content_more (rows_in c.args.self.now) c.args.self.now.members table stands (rows_of c.args.submission.now))) c.plan.result c.plan.ensures.after

pub returns-clause-agrees : goal.returns-clause-agrees
returns-clause-agrees g c =
    if_ok (λ plan none table stands. sym (clash_told (rows_in c.args.self.now) c.args.self.now.members table stands c.args.self.now.agree (rows_of c.args.submission.now)) ∙ none) c.plan.result c.plan.ensures.agrees

pub returns-clause-refused : goal.returns-clause-refused
returns-clause-refused g c =
    if_err (λ e refused table stands. refused_told (rows_in c.args.self.now) c.args.self.now.members table stands c.args.self.now.agree c.args.submission.now (refuse_data e) refused) c.plan.result c.plan.ensures.refused

use Rattle.std.proofs.Common.{◌∙◌}
use Rattle.covrows.specs.View.{rows_in}
use Rattle.covrows.proofs.Stands.{if_ok, on_err, sections_told}
use Rattle.covrows.proofs.as_table.RowsTable.prepare_rename.Goals as goal

pub returns-clause-sections : goal.returns-clause-sections
returns-clause-sections g c =
    if_ok (λ renaming told table stands. told ∙ sections_told (rows_in c.args.self.now) c.args.self.now.members table stands c.args.old.now) c.plan_rename.result c.plan_rename.ensures.sections

pub returns-clause-some : goal.returns-clause-some
returns-clause-some g c =
    on_err (λ some table stands none. some (sections_told (rows_in c.args.self.now) c.args.self.now.members table stands c.args.old.now ∙ none)) c.plan_rename.result c.plan_rename.ensures.some

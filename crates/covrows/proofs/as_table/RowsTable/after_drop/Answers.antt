use Rattle.std.proofs.Common.{ap, ◌∙◌}
use Rattle.covtable.specs.Totals.{totals_of}
use Rattle.covrows.specs.View.{rows_in}
use Rattle.covrows.proofs.Stands.{sections_told, without_told}
use Rattle.covrows.proofs.as_table.RowsTable.after_drop.Goals as goal

pub returns-clause-sections : goal.returns-clause-sections
returns-clause-sections g c = λ table stands. c.sections_of.ensures ∙ sections_told (rows_in c.args.self.now) c.args.self.now.members table stands c.args.test.now

pub returns-clause-totals : goal.returns-clause-totals
returns-clause-totals g c = λ table stands. c.totals_where.ensures.value ∙ ap totals_of (without_told (rows_in c.args.self.now) c.args.self.now.members table stands c.args.test.now)

pub returns-clause-bounds : goal.returns-clause-bounds
returns-clause-bounds g c = c.totals_where.ensures.bounds

use Rattle.std.proofs.Common.{sym, ◌∙◌}
use Rattle.covtable.proofs.Contents.{test_by_content}
use Rattle.covrows.specs.View.{rows_in}
use Rattle.covrows.proofs.Stands.{has_test_told}
use Rattle.covrows.proofs.as_table.RowsTable.has_test.Goals as goal

pub returns-clause-value : goal.returns-clause-value
returns-clause-value g c = c.has_row_of.ensures ∙ sym (test_by_content (rows_in c.args.self.now) c.args.test.now)

pub returns-clause-rows : goal.returns-clause-rows
returns-clause-rows g c = λ table stands. c.has_row_of.ensures ∙ has_test_told (rows_in c.args.self.now) c.args.self.now.members table stands c.args.test.now

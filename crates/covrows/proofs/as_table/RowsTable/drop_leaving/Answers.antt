use Rattle.std.proofs.Common.{filter, not}
use Rattle.covtable.specs.Without.{is_of_test, without_test}
use Rattle.covrows.specs.View.{rows_in}
use Rattle.covrows.proofs.Stands.{stands_as, stands_without}
use Rattle.covrows.proofs.as_table.RowsTable.drop_leaving.Goals as goal

pub returns : goal.returns
returns g c = λ table stands.
    let before = c.args.self.now in
    let rows = rows_in before in
    let test = c.args.test.now in
    stands_as (rows_in c.drop_rows_of.new.self) (filter (λ row. not (is_of_test test row)) rows) c.drop_rows_of.new.self.members before.members (without_test test table)
    c.drop_rows_of.ensures.rows c.drop_rows_of.ensures.members (stands_without rows before.members table stands test)

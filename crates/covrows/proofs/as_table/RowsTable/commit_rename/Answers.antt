use Rattle.std.proofs.Common.{map, ◌∙◌}
use Rattle.covtable.specs.Renamed.{renamed, renamed_row}
use Rattle.covrows.specs.View.{rows_in}
use Rattle.covrows.proofs.Stands.{stands_as, stands_renamed}
use Rattle.covrows.proofs.as_table.RowsTable.commit_rename.Goals as goal

pub returns : goal.returns
returns g c =
    let before = c.args.self.now in
    let rows = rows_in before in
    record {
      stands = λ old new table planned stands.
          stands_as (rows_in c.rename.new.self) (map (renamed_row old new) rows) c.rename.new.self.members before.members (renamed old new table) (c.rename.ensures.rows ∙ planned) c.rename.ensures.members
          (stands_renamed rows before.members table stands before.agree old new);
    }

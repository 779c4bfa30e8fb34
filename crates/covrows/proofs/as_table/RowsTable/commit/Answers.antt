use Rattle.std.proofs.Common.{◌+◌, [], ◌∷◌, ◌++◌, ◌∙◌}
use Rattle.covdata.specs.Row.{rows_of}
use Rattle.covrows.specs.View.{rows_in}
use Rattle.covrows.proofs.Stands.{stands_as, stands_more}
use Rattle.covrows.proofs.as_table.RowsTable.commit.Goals as goal

pub returns : goal.returns
returns g c =
    let before = c.args.self.now in
    let rows = rows_in before in
    record {
      stands = λ s table plan stands.
          stands_as (rows_in c.add.new.self) (rows ++ rows_of s) c.add.new.self.members (before.members + 1) (table ++ rows_of s ∷ []) (c.add.ensures.rows ∙ plan.rows) c.add.ensures.members
          (stands_more rows before.members table stands before.agree s plan.agree plan.members plan.small);
    }

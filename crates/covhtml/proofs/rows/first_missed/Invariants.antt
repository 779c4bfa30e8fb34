use Rattle.std.proofs.Common.{◌≡◌, drop, map}
use Rattle.covhtml.specs.RowView.{row_data}
use Rattle.covhtml.specs.Rows.{first_missed}
use Rattle.covhtml.proofs.rows.first_missed.Given as goal

abbrev pub invariant-loop-row : goal.invariant-loop-row
invariant-loop-row l = first_missed (map row_data (drop l.row-index l.rows)) ≡ first_missed (map row_data l.rows)

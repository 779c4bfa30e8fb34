use Rattle.std.proofs.Common.{◌≡◌, None, drop, map}
use Rattle.covhtml.specs.RowView.{row_data}
use Rattle.covhtml.specs.Rows.{last_missed}
use Rattle.covhtml.proofs.rows.last_missed.Given as goal

abbrev pub invariant-loop-row : goal.invariant-loop-row
invariant-loop-row l = last_missed l.last (map row_data (drop l.row-index l.rows)) ≡ last_missed None (map row_data l.rows)

use Rattle.std.proofs.Common.{◌≡◌, drop, map}
use Rattle.covhtml.specs.RowView.{row_data}
use Rattle.covhtml.specs.Rows.{rows_after}
use Rattle.covhtml.proofs.rows.rows_up_to.Given as goal

abbrev pub invariant-loop-place : goal.invariant-loop-place
invariant-loop-place l = rows_after l.line (map row_data (drop l.place l.rows)) ≡ rows_after l.line (map row_data l.rows)

use Rattle.std.proofs.Common.{◌≡◌, ◌++◌, drop, map}
use Rattle.covhtml.specs.RowView.{row_data}
use Rattle.covhtml.specs.Rows.{other_rows}
use Rattle.covhtml.proofs.source_rows.put_other_rows.Given as goal

abbrev pub invariant-loop-place : goal.invariant-loop-place
invariant-loop-place g l = g.P.Printer.text l.out ++ other_rows (map row_data (drop l.place l.rows)) ≡ g.P.Printer.text l.fn.out ++ other_rows (map row_data l.rows)

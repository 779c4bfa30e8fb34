use Rattle.std.proofs.Common.{◌≡◌, ◌+◌, ◌++◌, length, map}
use Rattle.covline.specs.Lines.{lines_of}
use Rattle.covhtml.specs.RowView.{row_data}
use Rattle.covhtml.specs.Rows.{rows_below}
use Rattle.covhtml.proofs.source_rows.put_rows.Given as goal

-- what was printed, with the rows of the lines that are left, is the text of all rows
abbrev pub invariant-loop-text : goal.invariant-loop-text
invariant-loop-text g l = record {
  written : g.P.Printer.text l.out ++ rows_below l.line (map row_data l.rest) (lines_of l.text-iterator) ≡ g.P.Printer.text l.fn.out ++ rows_below 0 (map row_data l.rows) (lines_of l.source);
  counted : l.line + length (lines_of l.text-iterator) ≡ length (lines_of l.source);
}

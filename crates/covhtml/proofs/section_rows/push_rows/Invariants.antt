use Rattle.std.proofs.Common.{◌≡◌, ◌++◌, drop, map}
use Rattle.covtable.specs.ValuesView.{branch_data, line_data}
use Rattle.covhtml.specs.RowView.{row_data}
use Rattle.covhtml.specs.SectionRows.{section_rows}
use Rattle.covhtml.proofs.section_rows.push_rows.Given as goal

abbrev pub invariant-loop-line : goal.invariant-loop-line
invariant-loop-line g l =
    map row_data l.rows.items ++ section_rows (map line_data (drop l.line-index l.lines)) (map branch_data l.rest)
    ≡ map row_data l.fn.rows.items ++ section_rows (map line_data l.lines) (map branch_data l.branches)

use Rattle.std.proofs.Common.{◌≡◌, ◌++◌, length, map}
use Rattle.covtable.specs.ValuesView.{branch_data}
use Rattle.covhtml.specs.RowView.{row_data}
use Rattle.covhtml.specs.SectionRows.{branch_rows}
use Rattle.covhtml.proofs.section_rows.push_branch_rows.Given as goal

abbrev pub invariant-loop-first : goal.invariant-loop-first
invariant-loop-first g l =
    map row_data l.rows.items ++ branch_rows (map branch_data l.rest) ≡ map row_data l.fn.rows.items ++ branch_rows (map branch_data l.branches)

abbrev pub decreases-loop-first : goal.decreases-loop-first
decreases-loop-first g l = length l.rest

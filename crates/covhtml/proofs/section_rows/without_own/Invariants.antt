use Rattle.std.proofs.Common.{◌≡◌, length, map}
use Rattle.covtable.specs.ValuesView.{branch_data}
use Rattle.covhtml.specs.SectionRows.{behind, is_of}
use Rattle.covhtml.proofs.section_rows.without_own.Given as goal

abbrev pub invariant-loop-branch : goal.invariant-loop-branch
invariant-loop-branch l = behind (is_of l.line) (map branch_data l.rest) ≡ behind (is_of l.line) (map branch_data l.branches)

abbrev pub decreases-loop-branch : goal.decreases-loop-branch
decreases-loop-branch l = length l.rest

use Rattle.std.proofs.Common.{◌≡◌, length, map}
use Rattle.covtable.specs.ValuesView.{branch_data}
use Rattle.covhtml.specs.SectionRows.{branches_from}
use Rattle.covhtml.proofs.section_rows.branches_from.Given as goal

abbrev pub invariant-loop-branch : goal.invariant-loop-branch
invariant-loop-branch l = branches_from l.line (map branch_data l.rest) ≡ branches_from l.line (map branch_data l.branches)

abbrev pub decreases-loop-branch : goal.decreases-loop-branch
decreases-loop-branch l = length l.rest

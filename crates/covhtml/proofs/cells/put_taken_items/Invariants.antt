use Rattle.std.proofs.Common.{◌≡◌, ◌++◌, drop, map}
use Rattle.std.specs.List.{flat_map}
use Rattle.covtable.specs.ValuesView.{branch_data}
use Rattle.covhtml.specs.Rows.{taken_item}
use Rattle.covhtml.proofs.cells.put_taken_items.Given as goal

abbrev pub invariant-loop-branch : goal.invariant-loop-branch
invariant-loop-branch g l =
    g.P.Printer.text l.out ++ flat_map taken_item (map branch_data (drop l.branch-index l.branches)) ≡ g.P.Printer.text l.fn.out ++ flat_map taken_item (map branch_data l.branches)

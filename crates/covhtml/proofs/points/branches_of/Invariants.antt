use Rattle.std.proofs.Common.{◌≡◌, ◌++◌, map}
use Rattle.covtable.specs.ValuesView.{branch_data}
use Rattle.covhtml.proofs.points.branches_of.Given as goal

abbrev pub invariant-loop-branch : goal.invariant-loop-branch
invariant-loop-branch g l = map branch_data l.branches.items ++ g.C.TableSection.branches_left l.branch-iterator ≡ (g.C.TableSection.shown l.fn.section).branches

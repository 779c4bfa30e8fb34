use Rattle.std.proofs.Common.{◌≡◌, ◌++◌, length, map}
use Rattle.covtable.specs.ValuesView.{file_totals_data}
use Rattle.covreport.proofs.files.list_files.Given as goal

-- the files so far, followed by the files that are left, are all files
abbrev pub invariant-loop-file : goal.invariant-loop-file
invariant-loop-file g l =
    let left = g.I.TableFiles.left in
    map file_totals_data l.list.items ++ left l.files ≡ left l.initial.files

abbrev pub decreases-loop-file : goal.decreases-loop-file
decreases-loop-file g l = length (g.I.TableFiles.left l.files)

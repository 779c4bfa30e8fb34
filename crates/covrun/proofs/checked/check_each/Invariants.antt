use Rattle.std.specs.Prelude.{◌≡◌, ◌++◌, List, Ok, length, map, ℕ}
use Rattle.std.specs.String.{string_bytes}
use Rattle.covrun.specs.Checked.{TellsEach}
use Rattle.covworld.specs.Folder.{folder_data}
use Rattle.covrun.proofs.checked.check_each.Given as goal

-- the files before those that are left are reported, and `worst` is the worst of their verdicts
abbrev pub invariant-loop-left : goal.invariant-loop-left
invariant-loop-left g l =
    (before : List (List ℕ)) × (map string_bytes l.files ≡ before ++ map string_bytes l.left)
    × TellsEach (folder_data g.F.Folder g.F.File.Source l.folder) l.options.format l.options.strictness before (Ok l.worst) l.initial.sinks l.sinks

abbrev pub decreases-loop-left : goal.decreases-loop-left
decreases-loop-left g l = length l.left

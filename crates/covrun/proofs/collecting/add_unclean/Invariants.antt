use Rattle.std.specs.Prelude.{◌≡◌, ◌++◌, map, take}
use Rattle.std.specs.List.{flat_map}
use Rattle.std.specs.String.{string_bytes}
use Rattle.covrun.specs.Ending.{strict_line}
use Rattle.covrun.proofs.collecting.add_unclean.Given as goal

-- the lines of the unclean texts so far are appended
abbrev pub invariant-loop-input : goal.invariant-loop-input
invariant-loop-input l = l.lines ≡ l.initial.lines ++ flat_map (strict_line (map string_bytes l.files)) (take l.input-index l.refused)

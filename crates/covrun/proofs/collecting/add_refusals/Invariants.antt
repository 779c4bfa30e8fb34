use Rattle.std.specs.Prelude.{◌≡◌, ◌++◌, map, take}
use Rattle.std.specs.List.{flat_map}
use Rattle.std.specs.String.{string_bytes}
use Rattle.covrun.specs.Ending.{refusal_line}
use Rattle.covrun.proofs.collecting.add_refusals.Given as goal

-- the lines of the refused inputs so far are appended
abbrev pub invariant-loop-input : goal.invariant-loop-input
invariant-loop-input l = l.lines ≡ l.initial.lines ++ flat_map (refusal_line l.naming (map string_bytes l.files)) (take l.input-index l.refused)

use Rattle.std.specs.Prelude.{◌≡◌, ◌++◌, map, take}
use Rattle.std.specs.List.{flat_map}
use Rattle.covtable.specs.ValuesView.{file_totals_data}
use Rattle.covrun.specs.Strict.{unmatched_line}
use Rattle.covrun.proofs.strict.add_unmatched.Given as goal

-- the lines about the patterns so far are appended
abbrev pub invariant-loop-pattern : goal.invariant-loop-pattern
invariant-loop-pattern l = l.lines ≡ l.initial.lines ++ flat_map (unmatched_line (map file_totals_data l.files)) (take l.pattern-index l.patterns)

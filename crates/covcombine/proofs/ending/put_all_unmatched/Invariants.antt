use Rattle.std.specs.Prelude.{◌≡◌, ◌++◌, map, take}
use Rattle.covtable.specs.ValuesView.{file_totals_data}
use Rattle.covcombine.specs.Combine.{unmatched}
use Rattle.covcombine.proofs.ending.put_all_unmatched.Given as goal

-- the lines about the patterns so far are appended
abbrev pub invariant-loop-pattern : goal.invariant-loop-pattern
invariant-loop-pattern l = l.lines ≡ l.initial.lines ++ unmatched l.front l.option (map file_totals_data l.files) (take l.pattern-index l.patterns)

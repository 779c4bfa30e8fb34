use Rattle.std.proofs.Common.{◌≡◌, take}
use Rattle.covreport.proofs.patterns.Patterns.is_same.Given as goal

-- so far the patterns are equal
abbrev pub invariant-loop-index : goal.invariant-loop-index
invariant-loop-index g l = take l.index l.patterns ≡ take l.index l.others

use Rattle.std.proofs.Common.{◌≡◌, take}
use Rattle.covreport.proofs.patterns.Patterns.copy.Given as goal

abbrev pub invariant-loop-pattern : goal.invariant-loop-pattern
invariant-loop-pattern g l = l.copy ≡ take l.pattern-index l.pattern-items

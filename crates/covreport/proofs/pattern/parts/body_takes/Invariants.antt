use Rattle.std.proofs.Common.{◌≡◌, length}
use Rattle.covreport.specs.Pattern.{in_body}
use Rattle.covreport.proofs.pattern.parts.body_takes.Given as goal

abbrev pub invariant-loop-low : goal.invariant-loop-low
invariant-loop-low l = in_body l.byte l.rest ≡ in_body l.byte l.body

abbrev pub decreases-loop-low : goal.decreases-loop-low
decreases-loop-low l = length l.rest

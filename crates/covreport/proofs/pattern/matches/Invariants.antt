use Rattle.std.proofs.Common.{◌≡◌}
use Rattle.covreport.specs.Pattern.{matches}
use Rattle.covreport.specs.PatternSteps.{answer_of, steps_left, GoesOn}
use Rattle.covreport.proofs.pattern.matches.Given as goal

abbrev pub invariant-loop-answer : goal.invariant-loop-answer
invariant-loop-answer l = (answer_of l.matcher ≡ matches l.pattern l.path) × GoesOn l.matcher

abbrev pub decreases-loop-answer : goal.decreases-loop-answer
decreases-loop-answer l = steps_left l.matcher

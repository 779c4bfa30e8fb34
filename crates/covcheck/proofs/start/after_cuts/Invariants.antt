use Rattle.std.proofs.Common.{◌≡◌, length}
use Rattle.covcheck.specs.CheckSteps.{after_cuts}
use Rattle.covcheck.proofs.start.after_cuts.Given as goal

abbrev pub invariant-loop-rest : goal.invariant-loop-rest
invariant-loop-rest l = after_cuts l.rest ≡ after_cuts l.text

abbrev pub decreases-loop-rest : goal.decreases-loop-rest
decreases-loop-rest l = length l.rest

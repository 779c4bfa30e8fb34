use Rattle.std.proofs.Common.{◌≡◌, length}
use Rattle.covcheck.specs.CheckSteps.{after_word}
use Rattle.covcheck.proofs.start.after_word.Given as goal

abbrev pub invariant-loop-rest : goal.invariant-loop-rest
invariant-loop-rest l = after_word l.rest ≡ after_word l.text

abbrev pub decreases-loop-rest : goal.decreases-loop-rest
decreases-loop-rest l = length l.rest

use Rattle.std.proofs.Common.{length}
use Rattle.covpieces.proofs.LastLines.{Looking}
use Rattle.covpieces.proofs.cut.whole_sections.Given as goal

abbrev pub invariant-loop-front : goal.invariant-loop-front
invariant-loop-front l = Looking l.text l.rest

abbrev pub decreases-loop-front : goal.decreases-loop-front
decreases-loop-front l = length l.rest

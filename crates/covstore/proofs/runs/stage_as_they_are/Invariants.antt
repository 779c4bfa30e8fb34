use Rattle.std.proofs.Common.{length}
use Rattle.covstore.proofs.RunsAdds.{HasTakenTo}
use Rattle.covstore.proofs.runs.stage_as_they_are.Given as goal

abbrev pub invariant-loop-rest : goal.invariant-loop-rest
invariant-loop-rest g l = HasTakenTo (λ items. items) l.items l.rest l.initial.test l.initial.index l.test l.index

abbrev pub decreases-loop-rest : goal.decreases-loop-rest
decreases-loop-rest g l = length l.rest

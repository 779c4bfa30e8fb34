use Rattle.covlarge.proofs.Checking.{GivesAfter}
use Rattle.covlarge.specs.State.{MayFailFrom}
use Rattle.covlarge.proofs.check.check_large.Given as goal

-- what comes of the rest comes of the whole
abbrev pub invariant-loop-rest : goal.invariant-loop-rest
invariant-loop-rest g l = record {
  gives : GivesAfter g.S.Source.left l.initial.left l.left;
  fails : MayFailFrom g.S.Source.left g.S.Source.failed_reads l.left.source → MayFailFrom g.S.Source.left g.S.Source.failed_reads l.initial.left.source;
}

abbrev pub decreases-loop-rest : goal.decreases-loop-rest
decreases-loop-rest g l = l.left.left

use Rattle.covread.specs.Outcome.{IsOutcome}
use Rattle.covlcov2.specs.Outcome.{IsOutcome as IsLcov2Outcome}
use Rattle.covpieces.specs.Whole.{IsWholeOutcome, IsWholeLcov2Outcome}
use Rattle.covpieces.specs.Pieces.{carried_after, lcov2_carried_after}
use Rattle.covpieces.proofs.OneByOne.{one_by_one}
use Rattle.covpieces.proofs.laws.pieces_are_read_one_by_one.Goals as goal

pub returns-clause-trace : goal.returns-clause-trace
returns-clause-trace c = one_by_one IsOutcome IsWholeOutcome carried_after c.pieces_are_read_as_the_whole.ensures.trace

pub returns-clause-lcov2 : goal.returns-clause-lcov2
returns-clause-lcov2 c = one_by_one IsLcov2Outcome IsWholeLcov2Outcome lcov2_carried_after c.pieces_are_read_as_the_whole.ensures.lcov2

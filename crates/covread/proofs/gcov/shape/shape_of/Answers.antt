use Rattle.std.proofs.Common.{ap}
use Rattle.covread.specs.GcovReading.{shape_of, or_other}
use Rattle.covread.proofs.gcov.shape.shape_of.Goals as goal

pub returns-in-Some : goal.returns-in-Some
unfolding shape_of
returns-in-Some c = ap or_other c.in-Some.ensures

pub returns-in-None : goal.returns-in-None
unfolding shape_of
returns-in-None c = ap or_other c.in-None.ensures

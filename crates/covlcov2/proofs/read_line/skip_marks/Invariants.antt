use Rattle.std.proofs.Common.{◌≡◌, false, length}
use Rattle.covlcov2.specs.Reading.{marks_from}
use Rattle.covlcov2.proofs.read_line.skip_marks.Given as goal

abbrev pub invariant-loop-rest : goal.invariant-loop-rest
invariant-loop-rest l = marks_from l.is_excluded l.rest ≡ marks_from false l.text

abbrev pub decreases-loop-rest : goal.decreases-loop-rest
decreases-loop-rest l = length l.rest

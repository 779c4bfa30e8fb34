use Rattle.std.proofs.Common.{◌≡◌, length}
use Rattle.covread.specs.GcovReading.{in_class, rest_of}
use Rattle.covread.proofs.gcov.text.after_all.Given as goal

abbrev pub invariant-loop-rest : goal.invariant-loop-rest
invariant-loop-rest l = rest_of (in_class l.class) l.rest ≡ rest_of (in_class l.class) l.text

abbrev pub decreases-loop-rest : goal.decreases-loop-rest
decreases-loop-rest l = length l.rest

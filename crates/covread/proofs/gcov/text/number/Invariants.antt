use Rattle.std.proofs.Common.{◌≡◌, take, Some}
use Rattle.covread.specs.GcovReading.{number_of}
use Rattle.covread.proofs.gcov.text.number.Given as goal

abbrev pub invariant-loop-digit : goal.invariant-loop-digit
invariant-loop-digit l = Some l.number ≡ number_of (take l.digit-index l.digits)

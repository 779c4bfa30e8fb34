use Rattle.std.proofs.Common.{◌≡◌, length}
use Rattle.covline.specs.Reading.{digits_from}
use Rattle.covline.proofs.reader.read_more_digits.Given as goal

abbrev pub invariant-loop-rest : goal.invariant-loop-rest
invariant-loop-rest l = digits_from l.number l.rest ≡ digits_from l.fn.front l.text

abbrev pub decreases-loop-rest : goal.decreases-loop-rest
decreases-loop-rest l = length l.rest

use Rattle.std.proofs.Common.{◌≡◌, length}
use Rattle.covline.specs.declared.reader.Number.TheVariants.{Value}
use Rattle.covline.specs.Reading.{digits_from}
use Rattle.covline.proofs.reader.read_digits.Given as goal

abbrev pub invariant-loop-rest : goal.invariant-loop-rest
invariant-loop-rest l = digits_from (Value l.value) l.rest ≡ digits_from (Value 0) l.text

abbrev pub decreases-loop-rest : goal.decreases-loop-rest
decreases-loop-rest l = length l.rest

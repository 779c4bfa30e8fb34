use Rattle.std.proofs.Common.{◌≡◌, length, option_map}
use Rattle.std.specs.Option.{option_or}
use Rattle.covread.specs.GcovReading.{last_called}
use Rattle.covread.proofs.gcov.text.after_last_called.Given as goal

abbrev pub invariant-loop-rest : goal.invariant-loop-rest
invariant-loop-rest l = option_or (last_called l.rest) (option_map (λ r. r.now) l.found) ≡ last_called l.text

abbrev pub decreases-loop-rest : goal.decreases-loop-rest
decreases-loop-rest l = length l.rest

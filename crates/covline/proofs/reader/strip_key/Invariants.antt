use Rattle.std.proofs.Common.{◌≡◌, length}
use Rattle.covline.specs.Reading.{after_key}
use Rattle.covline.proofs.reader.strip_key.Given as goal

-- what follows the rest of the key in the rest of the text is what follows the key in the text
abbrev pub invariant-loop-left : goal.invariant-loop-left
invariant-loop-left l = after_key l.left l.rest ≡ after_key l.key l.text

abbrev pub decreases-loop-left : goal.decreases-loop-left
decreases-loop-left l = length l.left

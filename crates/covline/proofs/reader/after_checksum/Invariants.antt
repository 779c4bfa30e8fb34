use Rattle.std.proofs.Common.{◌≡◌, length}
use Rattle.covline.specs.Fronts.{after_checksum}
use Rattle.covline.proofs.reader.after_checksum.Given as goal

-- what follows the checksum's bytes in the rest is what follows them in the text
abbrev pub invariant-loop-byte : goal.invariant-loop-byte
invariant-loop-byte l = after_checksum l.text ≡ after_checksum l.rest

abbrev pub decreases-loop-byte : goal.decreases-loop-byte
decreases-loop-byte l = length l.rest

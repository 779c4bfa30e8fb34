use Rattle.covlist.proofs.Begun.{AreShown}
use Rattle.covlist.specs.Shown.{shown_byte}
use Rattle.covlist.proofs.shown.put_shown_name.Given as goal

abbrev pub invariant-loop-byte : goal.invariant-loop-byte
invariant-loop-byte g l = AreShown shown_byte l.name l.fn.text l.text l.byte-index

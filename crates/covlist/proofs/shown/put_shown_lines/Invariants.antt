use Rattle.covlist.proofs.Begun.{AreShown}
use Rattle.covlist.specs.Shown.{shown_in_lines}
use Rattle.covlist.proofs.shown.put_shown_lines.Given as goal

abbrev pub invariant-loop-byte : goal.invariant-loop-byte
invariant-loop-byte g l = AreShown shown_in_lines l.lines l.fn.text l.text l.byte-index

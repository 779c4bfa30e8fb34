use Rattle.std.proofs.Common.{◌≡◌}
use Rattle.covstore.proofs.HoldsAgain.{IsHoldingAgain}
use Rattle.covstore.proofs.stage.copied.hold_again.Given as goal

abbrev pub invariant-loop-line : goal.invariant-loop-line
invariant-loop-line g l = IsHoldingAgain l.lines.committed l.points.staged l.fn.checksums.staged l.line-iterator l.checksums.staged
    × (l.checksums.committed ≡ l.fn.checksums.committed)
    × (l.checksums.texts ≡ l.fn.checksums.texts)

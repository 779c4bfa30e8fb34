use Rattle.std.proofs.Common.{◌≡◌}
use Rattle.covstore.proofs.FewerHolders.{IsReleasing}
use Rattle.covstore.proofs.index.drops.release_checksums.Given as goal

-- the test still counts as a holder for the lines that are left, and for no others
abbrev pub invariant-loop-line : goal.invariant-loop-line
invariant-loop-line g l = IsReleasing l.lines.committed l.fn.checksums.committed l.line-iterator l.checksums.committed × (l.checksums.staged ≡ l.checksums.committed) × (l.checksums.texts ≡ l.fn.checksums.texts)

use Rattle.std.proofs.Common.{◌≡◌, drop}
use Rattle.covuses.specs.Added.{added}
use Rattle.covuses.proofs.counts.add_counts.Given as goal

abbrev pub invariant-loop-line : goal.invariant-loop-line
invariant-loop-line l = (l.lines.committed ≡ l.fn.lines.committed) × (added (drop l.line-index l.counts) l.lines.staged ≡ added l.counts l.fn.lines.staged)

use Rattle.std.proofs.Common.{refl}
use Rattle.covread.proofs.trace.tally.OwnTotals.differs.Goals as goal

pub returns : goal.returns
returns c = rw (← c.total.ensures) refl

use Rattle.std.proofs.Common.{refl}
use Rattle.covread.proofs.trace.functions.starts_before.Goals as goal

pub returns : goal.returns
returns c = refl

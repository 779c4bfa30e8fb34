use Rattle.std.proofs.Common.{refl}
use Rattle.covread.proofs.trace.read.take_line.Goals as goal

pub returns-in-Err : goal.returns-in-Err
returns-in-Err g c = λ inside is. (refl, c.in-Err.ensures.err)

pub take-requires : goal.take-requires
take-requires g c = c.requires

use Rattle.std.proofs.Common.{refl}
use Rattle.covrun.proofs.program.serve.Goals as goal

pub returns : goal.returns
returns g c = rw (← c.world.view_is) (refl, c.serve.ensures)

use Rattle.std.proofs.Common.{refl}
use Rattle.covrun.proofs.Endings.{failure_reported}
use Rattle.covrun.proofs.output.report_failure.Goals as goal

pub returns : goal.returns
returns g c = rw (← c.world.view_is) (λ file. failure_reported file c.args.failure _ _ _ (refl, refl) c.say_failure.ensures)

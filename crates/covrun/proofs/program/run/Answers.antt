use Rattle.std.proofs.Common.{Ok, Err, refl}
use Rattle.covrun.proofs.program.run.Goals as goal

pub returns-in-Ok : goal.returns-in-Ok
returns-in-Ok g c = (Ok c.in-Ok.asked, c.in-Ok.ensures, c.run_command.ensures)

pub returns-in-Err : goal.returns-in-Err
returns-in-Err g c =
    rw (← c.world.view_is) (Err c.in-Err.fault, c.in-Err.ensures, ((refl, refl), c.report_line.ensures))

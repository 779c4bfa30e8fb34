use Rattle.std.proofs.Common.{refl}
use Rattle.covcombine.proofs.Reports.{failure_told, tracefile_told}
use Rattle.covcombine.proofs.report.report.Goals as goal

pub returns-in-Stopped-clause-reported : goal.returns-in-Stopped-clause-reported
returns-in-Stopped-clause-reported g c =
    rw (← c.world.view_is, c.in-Stopped.is) (failure_told _ 3 _ _ _ _ c.say.ensures.status refl c.say.ensures.withheld c.say.ensures.said)

pub returns-in-Fails-clause-reported : goal.returns-in-Fails-clause-reported
returns-in-Fails-clause-reported g c =
    rw (← c.world-in-Fails.view_is, c.in-Fails.is, ← c.get.ensures) (failure_told _ c.in-Fails.status _ _ _ _ c.say-in-Fails.ensures.status refl c.say-in-Fails.ensures.withheld c.say-in-Fails.ensures.said)

pub returns-in-None-clause-reported : goal.returns-in-None-clause-reported
returns-in-None-clause-reported g c =
    rw (← c.world-in-None.view_is, c.in-Gives.is, c.in-None.is) (tracefile_told _ _ _ _ refl c.print_tracefile.ensures)

pub returns-in-Some-clause-reported : goal.returns-in-Some-clause-reported
returns-in-Some-clause-reported g c = rw (c.in-Gives.is, c.in-Some.is) c.write_tracefile.ensures.reported

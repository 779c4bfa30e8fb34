use Rattle.std.proofs.Common.{arith}
use Rattle.covlock.specs.declared.start.OpenFault.TheVariants as faults
use Rattle.covlock.proofs.Steps.{ok_is_no_err}
use Rattle.covlock.proofs.start.Start.new.Goals as goal

pub returns-clause-bad : goal.returns-clause-bad
returns-clause-bad g c = (λ is. absurd (ok_is_no_err _ faults.BadJobs is), λ bad. absurd (bad (record { some = omega (arith, c.if-jobs-eq0.false); few = c.if-jobs-gt-MAX_JOBS.false })))

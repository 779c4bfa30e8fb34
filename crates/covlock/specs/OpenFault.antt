-- The numbers of the faults of a start, which stay the same in all versions.
use Rattle.std.specs.Prelude.{ℕ}
use Rattle.covlock.specs.declared.start.OpenFault.{OpenFault}
use Rattle.covlock.specs.declared.start.OpenFault.TheVariants.{BadJobs, Memory}

abbrev pub open_number : OpenFault → ℕ
open_number BadJobs = 1
open_number Memory = 2

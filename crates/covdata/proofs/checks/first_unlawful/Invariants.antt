use Rattle.std.proofs.Common.{take, map}
use Rattle.std.specs.Prelude.{All}
use Rattle.covdata.specs.SectView.{sect_data}
use Rattle.covdata.specs.Lawful.{IsLawfulSect}
use Rattle.covdata.proofs.checks.first_unlawful.Given as goal

abbrev pub invariant-loop-at : goal.invariant-loop-at
invariant-loop-at g l = All IsLawfulSect (take l.at (map sect_data l.sects))

use Rattle.std.proofs.Common.{◌≡◌, map, take}
use Rattle.covdata.specs.SectView.{sect_data}
use Rattle.covdata.proofs.sect.Sects.copy.Given as goal

-- so far the copy has the sections that were passed
abbrev pub invariant-loop-sect : goal.invariant-loop-sect
invariant-loop-sect g l = l.copy ≡ map sect_data (take l.sect-index l.sect-items)

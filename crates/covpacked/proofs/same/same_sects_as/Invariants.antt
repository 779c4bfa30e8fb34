use Rattle.std.proofs.Common.{◌≡◌, ◌↔◌, drop, map}
use Rattle.covdata.specs.SectView.{sect_data}
use Rattle.covpacked.proofs.same.same_sects_as.Given as goal

-- so far the sections are equal
abbrev pub invariant-loop-sect : goal.invariant-loop-sect
invariant-loop-sect g l = (l.packed ≡ map sect_data (drop l.sect-index l.second)) ↔ (l.fn.first ≡ map sect_data l.second)

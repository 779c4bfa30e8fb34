use Rattle.std.proofs.Common.{◌≡◌, map, take}
use Rattle.covdata.specs.SectView.{sect_data}
use Rattle.covdata.proofs.sect.Sects.is_same.Given as goal

-- so far the sections are equal
abbrev pub invariant-loop-index : goal.invariant-loop-index
invariant-loop-index g l = map sect_data (take l.index l.sects) ≡ map sect_data (take l.index l.others)

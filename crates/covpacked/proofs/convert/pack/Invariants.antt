use Rattle.std.proofs.Common.{◌≡◌, [], map, take}
use Rattle.covdata.specs.SectView.{sect_data}
use Rattle.covpacked.proofs.convert.pack.Given as goal

-- so far the sections that were passed are packed
abbrev pub invariant-loop-sect : goal.invariant-loop-sect
invariant-loop-sect g l = record {
  sects : l.sects.sects ≡ map sect_data (take l.sect-index l.sect-items);
  items : l.sects.items ≡ [];
}

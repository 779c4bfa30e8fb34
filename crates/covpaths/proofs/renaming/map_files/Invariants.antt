use Rattle.std.proofs.Common.{◌≡◌, take}
use Rattle.covpaths.specs.Names.{used_after}
use Rattle.covpaths.specs.Steps.{mapped_sect}
use Rattle.covpaths.proofs.Partly.{partly}
use Rattle.covpaths.proofs.renaming.map_files.Given as goal

-- the sections so far have their new paths, and the rules for them are marked
abbrev pub invariant-loop-index : goal.invariant-loop-index
invariant-loop-index l = record {
  sects : l.sects.sects ≡ partly (mapped_sect l.names.rules) l.index l.initial.sects.sects;
  used : l.used ≡ used_after l.names.rules l.initial.used (take l.index l.initial.sects.sects);
}

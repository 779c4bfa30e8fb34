use Rattle.std.proofs.Common.{◌≡◌}
use Rattle.covpaths.specs.Steps.{tested_sect}
use Rattle.covpaths.proofs.Partly.{partly}
use Rattle.covpaths.proofs.renaming.set_tests.Given as goal

-- the sections so far have the test
abbrev pub invariant-loop-index : goal.invariant-loop-index
invariant-loop-index l = l.sects.sects ≡ partly (tested_sect l.test) l.index l.initial.sects.sects

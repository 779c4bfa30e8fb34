use Rattle.std.proofs.Common.{◌≡◌, ◌++◌}
use Rattle.covpacked.proofs.convert.unpack.Given as goal

-- the sections so far, and those that are left, are all sections
abbrev pub invariant-loop-sect : goal.invariant-loop-sect
invariant-loop-sect g l = l.sects ++ l.sect-iterator ≡ l.fn.packed.sects

use Rattle.std.proofs.Common.{◌≡◌, ◌↔◌}
use Rattle.covpacked.proofs.same.same_sects.Given as goal

-- so far the sections are equal
abbrev pub invariant-loop-sect : goal.invariant-loop-sect
invariant-loop-sect l = (l.sect-iterator ≡ l.others) ↔ (l.fn.first ≡ l.fn.second)

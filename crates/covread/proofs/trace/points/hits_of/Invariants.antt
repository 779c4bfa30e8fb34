use Rattle.std.proofs.Common.{◌≡◌, ◌++◌}
use Rattle.covread.specs.TracePoints.{hits_said}
use Rattle.covread.proofs.trace.points.hits_of.Given as goal

-- the points so far, and those of the items that are left, are the points of all items
abbrev pub invariant-loop-item : goal.invariant-loop-item
invariant-loop-item g l = l.hits.items ++ hits_said g.P.Point.points l.item-iterator ≡ hits_said g.P.Point.points l.items

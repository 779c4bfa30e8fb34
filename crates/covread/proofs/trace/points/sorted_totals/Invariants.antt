use Rattle.std.proofs.Common.{take}
use Rattle.std.specs.Prelude.{option_map}
use Rattle.covread.specs.TracePoints.{IsAscent}
use Rattle.covread.proofs.TracePoints.{LastAt}
use Rattle.covread.proofs.trace.points.sorted_totals.Given as goal

abbrev pub invariant-loop-hit : goal.invariant-loop-hit
invariant-loop-hit g l = record {
  ascent : IsAscent g.P.Ord.cmp l.ascent (take l.hit-index l.hit-items);
  last : LastAt (option_map (λ h. h.point) l.ascent.last) l.hit-items l.hit-index;
}

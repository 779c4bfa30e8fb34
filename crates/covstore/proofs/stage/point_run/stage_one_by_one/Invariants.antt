use Rattle.std.proofs.Common.{◌≡◌, None, length}
use Rattle.std.specs.Prelude.{IfSome}
use Rattle.covstore.proofs.Summing.{IsSumming}
use Rattle.covstore.proofs.stage.point_run.stage_one_by_one.Given as goal

abbrev pub invariant-loop-item : goal.invariant-loop-item
invariant-loop-item g l = IsSumming g.K.Key.cmp g.S.PointSum.above g.Q.Query.named g.M.Addend.sum l.fn.run l.fn.points.staged l.fn.kept.staged l.rest l.points.staged l.kept.staged
    × (l.points.committed ≡ l.fn.points.committed)
    × (l.kept.committed ≡ l.fn.kept.committed)
    × IfSome l.kept.follows (λ seen. seen ≡ l.points)
    × (l.fn.kept.follows ≡ None → l.kept.follows ≡ None)

abbrev pub decreases-loop-item : goal.decreases-loop-item
decreases-loop-item g l = length l.rest

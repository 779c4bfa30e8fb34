use Rattle.covstore.proofs.Words.{◌≡◌, ◌++◌, List, ap, arith, length, sym, subst, ◌∙◌, reports_run, KeepsCountsOfKind, MapData}
use Rattle.covmap.proofs.Run.{fit_always}
use Rattle.covstore.specs.declared.sums.TestsAddend.{TestsAddend}
use Rattle.covstore.specs.SoleTest.{counts_of}
use Rattle.covstore.proofs.SoleCounts.{points_ascend}
use Rattle.covstore.proofs.SoleSteps.{found_by_run, hit_by_run, run_alone}
use Rattle.covstore.proofs.StepsTally.{length_reports}
use Rattle.covstore.proofs.stage.sole.stage_sole_run.Goals as goal

pub stage_run-requires : goal.stage_run-requires
stage_run-requires g c = fit_always g.K.Key.cmp g.Q.Query.named g.M.Addend.fits g.M.Addend.sum g.met.M.PointAddend.always_fits c.args.run.now c.args.points.now.staged

pub follow_run-requires-clause-few : goal.follow_run-requires-clause-few
follow_run-requires-clause-few g c =
    let reports = reports_run g.K.Key.cmp g.Q.Query.named g.M.Addend.sum g.M.ReportingAddend.reports c.args.run.now c.args.points.now.staged in
    let given : c.as_slice.result.now ≡ reports = c.as_slice.ensures.value ∙ c.in_default.ensures.reports ∙ ap (λ (items : List (g.row.Q.Denot × TestsAddend)). items ++ reports) c.in_ok-changes.ensures.items in
    let few = length_reports g.K.Key.cmp g.Q.Query.named g.M.Addend.sum g.M.ReportingAddend.reports c.args.run.now c.args.points.now.staged in
    let own = ap (λ (points : MapData g.row.K.Denot g.row.S.Denot). length (counts_of g.S.PointSum.above points.staged)) c.requires.follows in
    omega (arith, own, c.requires.room.few, few, ap (λ (items : List (g.row.Q.Denot × TestsAddend)). length items) given)

pub follow_run-requires-clause-found : goal.follow_run-requires-clause-found
follow_run-requires-clause-found g c =
    let above = g.S.PointSum.above in
    let points = c.args.points.now.staged in
    let reports = reports_run g.K.Key.cmp g.Q.Query.named g.M.Addend.sum g.M.ReportingAddend.reports c.args.run.now points in
    let given : c.as_slice.result.now ≡ reports = c.as_slice.ensures.value ∙ c.in_default.ensures.reports ∙ ap (λ (items : List (g.row.Q.Denot × TestsAddend)). items ++ reports) c.in_ok-changes.ensures.items in
    rw (c.in_default.ensures.ok, c.requires.follows, given)
    (found_by_run (record { total = g.K.Key.total; exact = g.K.Key.exact }) above g.Q.Query.named g.M.Addend.sum g.M.ReportingAddend.reports g.met.M.PointAddend.stays g.met.M.PointAddend.tells c.args.run.now points
    (points_ascend g.K.Key.cmp above points c.requires.room.kept.ascending))

pub follow_run-requires-clause-hit : goal.follow_run-requires-clause-hit
follow_run-requires-clause-hit g c =
    let above = g.S.PointSum.above in
    let points = c.args.points.now.staged in
    let reports = reports_run g.K.Key.cmp g.Q.Query.named g.M.Addend.sum g.M.ReportingAddend.reports c.args.run.now points in
    let given : c.as_slice.result.now ≡ reports = c.as_slice.ensures.value ∙ c.in_default.ensures.reports ∙ ap (λ (items : List (g.row.Q.Denot × TestsAddend)). items ++ reports) c.in_ok-changes.ensures.items in
    rw (c.in_default.ensures.ok, c.requires.follows, given)
    (hit_by_run (record { total = g.K.Key.total; exact = g.K.Key.exact }) above g.Q.Query.named g.M.Addend.sum g.M.ReportingAddend.reports g.met.M.PointAddend.stays g.met.M.PointAddend.tells c.args.run.now points
    (points_ascend g.K.Key.cmp above points c.requires.room.kept.ascending))

pub returns-clause-counts : goal.returns-clause-counts
returns-clause-counts g c =
    let above = g.S.PointSum.above in
    let points = c.args.points.now.staged in
    subst (λ (after : List (g.row.K.Denot × g.row.S.Denot)). KeepsCountsOfKind g.K.Key.cmp above points after (counts_of above points) (counts_of above after)) (sym c.in_default.ensures.ok)
    (run_alone (record { total = g.K.Key.total; exact = g.K.Key.exact }) above g.Q.Query.named g.M.Addend.sum g.M.ReportingAddend.reports g.met.M.PointAddend.stays g.met.M.PointAddend.tells c.args.run.now points)

use Rattle.covstore.proofs.Words.{◌≡◌, ◌∙◌, ◌++◌, List, ap, arith, length, subst, sym, FitRun, summed, reports_run, KeepsCountsOfKind, tests_fit, test_counts_with}
use Rattle.covmap.proofs.Run.{fit_always}
use Rattle.covmap.proofs.SlotWrites.{on_ok_more}
use Rattle.covstore.specs.declared.sums.TestsAddend.{TestsAddend}
use Rattle.covstore.proofs.StepsRun.{run_fits, run_keeps}
use Rattle.covstore.proofs.StepsTally.{length_reports}
use Rattle.covstore.proofs.stage.counted.stage_counted_run.Goals as goal

pub stage_run-requires : goal.stage_run-requires
stage_run-requires g c = fit_always g.K.Key.cmp g.Q.Query.named g.M.Addend.fits g.M.Addend.sum g.met.M.PointAddend.always_fits c.args.run.now c.args.points.now.staged

pub add_run-requires-clause-few : goal.add_run-requires-clause-few
add_run-requires-clause-few g c =
    let reports = reports_run g.K.Key.cmp g.Q.Query.named g.M.Addend.sum g.M.ReportingAddend.reports c.args.run.now c.args.points.now.staged in
    let given : c.as_slice.result.now ≡ reports = c.as_slice.ensures.value ∙ c.in_ok-stage_run.ensures.reports ∙ ap (λ (items : List (g.row.Q.Denot × TestsAddend)). items ++ reports) c.in_ok-changes.ensures.items in
    let few = length_reports g.K.Key.cmp g.Q.Query.named g.M.Addend.sum g.M.ReportingAddend.reports c.args.run.now c.args.points.now.staged in
    omega (arith, c.requires.few, few, ap (λ (items : List (g.row.Q.Denot × TestsAddend)). length items) given)

pub add_run-requires-clause-fits : goal.add_run-requires-clause-fits
add_run-requires-clause-fits g c =
    let counts = c.args.kept.now.staged in
    let reports = reports_run g.K.Key.cmp g.Q.Query.named g.M.Addend.sum g.M.ReportingAddend.reports c.args.run.now c.args.points.now.staged in
    let given : c.as_slice.result.now ≡ reports = c.as_slice.ensures.value ∙ c.in_ok-stage_run.ensures.reports ∙ ap (λ (items : List (g.row.Q.Denot × TestsAddend)). items ++ reports) c.in_ok-changes.ensures.items in
    subst (λ (items : List (g.row.Q.Denot × TestsAddend)). FitRun g.K.Key.cmp g.Q.Query.named tests_fit test_counts_with items counts) (sym given)
    (run_fits (record { total = g.K.Key.total; exact = g.K.Key.exact }) g.S.PointSum.above g.Q.Query.named g.M.Addend.sum g.M.ReportingAddend.reports g.met.M.PointAddend.stays g.met.M.PointAddend.tells
    c.args.run.now c.args.points.now.staged counts c.requires)

pub returns-clause-counts : goal.returns-clause-counts
returns-clause-counts g c =
    let points = c.args.points.now.staged in
    let counts = c.args.kept.now.staged in
    let reports = reports_run g.K.Key.cmp g.Q.Query.named g.M.Addend.sum g.M.ReportingAddend.reports c.args.run.now points in
    let given : c.as_slice.result.now ≡ reports = c.as_slice.ensures.value ∙ c.in_ok-stage_run.ensures.reports ∙ ap (λ (items : List (g.row.Q.Denot × TestsAddend)). items ++ reports) c.in_ok-changes.ensures.items in
    on_ok_more c.add_run.result
    (λ is.
    subst (λ (after : List (g.row.K.Denot × g.row.S.Denot)). KeepsCountsOfKind g.K.Key.cmp g.S.PointSum.above points after counts c.add_run.new.self.staged) (sym c.in_ok-stage_run.ensures.ok)
    (subst (KeepsCountsOfKind g.K.Key.cmp g.S.PointSum.above points (summed g.K.Key.cmp g.Q.Query.named g.M.Addend.sum c.args.run.now points) counts)
    (sym (is ∙ ap (λ (items : List (g.row.Q.Denot × TestsAddend)). summed g.K.Key.cmp g.Q.Query.named test_counts_with items counts) given))
    (run_keeps (record { total = g.K.Key.total; exact = g.K.Key.exact }) g.S.PointSum.above g.Q.Query.named g.M.Addend.sum g.M.ReportingAddend.reports g.met.M.PointAddend.stays g.met.M.PointAddend.tells
    c.args.run.now points counts)))
    c.add_run.ensures.ok

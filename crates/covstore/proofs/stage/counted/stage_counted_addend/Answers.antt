use Rattle.covstore.proofs.Words.{Option, List, ◌+◌, ◌≤◌, ap, length, subst, sym, ◌∙◌, put, value_of, changed, counts_with, TestCounts}
use Rattle.covstore.proofs.StepsCounts.{changed_is}
use Rattle.covstore.proofs.StepsKept.{put_keeps, room_at}
use Rattle.covstore.proofs.StepsRun.{length_changed}
use Rattle.covstore.proofs.stage.counted.stage_counted_addend.Goals as goal

pub add-requires-clause-room : goal.add-requires-clause-room
add-requires-clause-room g c = room_at c.args.points.now.staged c.args.kept.now.staged c.requires (g.Q.Query.named c.args.query)

pub returns-clause-counts : goal.returns-clause-counts
returns-clause-counts g c =
    let named = g.Q.Query.named c.args.query in
    let points = c.args.points.now.staged in
    let counts = c.args.kept.now.staged in
    let before = value_of g.K.Key.cmp named points in
    let added = c.in_ok-added.added in
    let reports = c.in_ok-added.ensures in
    let sum = g.M.Addend.sum c.args.addend before in
    let is = reports.after ∙ ap (g.M.Addend.sum c.args.addend) reports.before in
    put_keeps g.S.PointSum.above points counts (record { total = g.K.Key.total; exact = g.K.Key.exact }) named sum c.stage_sum.new.self.staged c.add.new.self.staged
    (reports.ok ∙ ap (λ (own : g.row.S.Denot). put g.K.Key.cmp named own points) is) (g.met.M.PointAddend.stays c.args.addend before)
    (c.in_ok-add.ensures.ok
    ∙ ap (λ change. changed g.K.Key.cmp named change counts) (c.report-change.ensures ∙ g.met.M.PointAddend.tells c.args.addend added.before added.after)
    ∙ changed_is g.K.Key.cmp g.S.PointSum.above named counts added.before added.after
    ∙ ap (λ (own : Option g.row.S.Denot). counts_with g.K.Key.cmp g.S.PointSum.above named own added.after counts) reports.before
    ∙ ap (λ (own : g.row.S.Denot). counts_with g.K.Key.cmp g.S.PointSum.above named before own counts) is)

pub returns-clause-few : goal.returns-clause-few
returns-clause-few g c =
    let counts = c.args.kept.now.staged in
    subst (λ (more : List (g.row.K.Denot × TestCounts)). length more ≤ length counts + 1) (sym c.in_ok-add.ensures.ok)
    (length_changed (record { total = g.K.Key.total; exact = g.K.Key.exact }) (g.Q.Query.named c.args.query) c.report-change.result counts c.requires.kept.ascending)

use Rattle.covstore.proofs.Words.{◌∙◌, List, ap, subst, on_ok_weaker, MapData, TestCounts, KeepsCountsOfKind}
use Rattle.covstore.proofs.KindSteps.{counted_staged, sole_keeps}
use Rattle.covstore.proofs.stage.point_run.stage_whole_run.Goals as goal
use Rattle.covstore.proofs.stage.point_run.stage_whole_run.Goals.{in-OfOneTest, in-OfTests}

pub returns-clause-counts : goal.returns-clause-counts
returns-clause-counts g c =
    let above = g.S.PointSum.above in
    let points = c.args.points.now in
    elim c.match-kept.branch [
      | in-OfOneTest w ↦
          rw (w.result-is, w.points-is, w.kept-inside-is)
          (on_ok_weaker w.stage_sole_run.result
          (λ keeps. sole_keeps g.K.Key.cmp above c.args.kept.now c.kept.inside.counts _ c.kept.view_is w.in-OfOneTest.is points c.requires.follows w.stage_sole_run.new.points w.stage_sole_run.new.sole w.stage_sole_run.ensures.follows keeps)
          w.stage_sole_run.ensures.counts)
      | in-OfTests w ↦
          rw (w.result-is, w.points-is, w.kept-inside-is)
          (on_ok_weaker w.stage_counted_run.result
          (λ keeps. subst (λ (own : List (g.row.K.Denot × TestCounts)). KeepsCountsOfKind g.K.Key.cmp above points.staged w.stage_counted_run.new.points.staged own w.stage_counted_run.new.kept.staged)
          (ap (λ (k : MapData g.row.K.Denot TestCounts). k.staged) w.get_mut.ensures.value ∙ counted_staged g.K.Key.cmp above c.args.kept.now c.kept.inside.counts _ c.kept.view_is w.in-OfTests.is) keeps)
          w.stage_counted_run.ensures.counts)
    ]

use Rattle.covstore.proofs.Words.{◌+◌, ◌≤◌, ◌∙◌, List, ap, length, subst, on_ok_weaker, MapData, TestCounts, KeepsCountsOfKind}
use Rattle.covstore.proofs.KindSteps.{counted_staged, sole_few, sole_keeps}
use Rattle.covstore.proofs.stage.one_item.stage_addend.Goals as goal
use Rattle.covstore.proofs.stage.one_item.stage_addend.Goals.{in-OfOneTest, in-OfTests}

pub returns-clause-counts : goal.returns-clause-counts
returns-clause-counts g c =
    let above = g.S.PointSum.above in
    let points = c.args.points.now in
    elim c.match-kept.branch [
      | in-OfOneTest w ↦
          rw (w.result-is, w.points-is, w.kept-inside-is)
          (on_ok_weaker w.stage_sole_addend.result
          (λ keeps. sole_keeps g.K.Key.cmp above c.args.kept.now c.kept.inside.counts _ c.kept.view_is w.in-OfOneTest.is points c.requires.follows w.stage_sole_addend.new.points w.stage_sole_addend.new.sole w.stage_sole_addend.ensures.follows keeps)
          w.stage_sole_addend.ensures.counts)
      | in-OfTests w ↦
          rw (w.result-is, w.points-is, w.kept-inside-is)
          (on_ok_weaker w.stage_counted_addend.result
          (λ keeps. subst (λ (own : List (g.row.K.Denot × TestCounts)). KeepsCountsOfKind g.K.Key.cmp above points.staged w.stage_counted_addend.new.points.staged own w.stage_counted_addend.new.kept.staged)
          (ap (λ (k : MapData g.row.K.Denot TestCounts). k.staged) w.get_mut.ensures.value ∙ counted_staged g.K.Key.cmp above c.args.kept.now c.kept.inside.counts _ c.kept.view_is w.in-OfTests.is) keeps)
          w.stage_counted_addend.ensures.counts)
    ]

pub returns-clause-few : goal.returns-clause-few
returns-clause-few g c =
    let above = g.S.PointSum.above in
    let points = c.args.points.now in
    elim c.match-kept.branch [
      | in-OfOneTest w ↦
          rw (w.result-is, w.kept-inside-is)
          (on_ok_weaker w.stage_sole_addend.result
          (λ few. sole_few g.K.Key.cmp above c.args.kept.now c.kept.inside.counts _ c.kept.view_is w.in-OfOneTest.is points c.requires.follows w.stage_sole_addend.new.points w.stage_sole_addend.new.sole w.stage_sole_addend.ensures.follows few)
          w.stage_sole_addend.ensures.few)
      | in-OfTests w ↦
          rw (w.result-is, w.kept-inside-is)
          (on_ok_weaker w.stage_counted_addend.result
          (λ few. subst (λ (own : List (g.row.K.Denot × TestCounts)). length w.stage_counted_addend.new.kept.staged ≤ length own + 1)
          (ap (λ (k : MapData g.row.K.Denot TestCounts). k.staged) w.get_mut.ensures.value ∙ counted_staged g.K.Key.cmp above c.args.kept.now c.kept.inside.counts _ c.kept.view_is w.in-OfTests.is) few)
          w.stage_counted_addend.ensures.few)
    ]

use Rattle.std.proofs.Common.{◌∙◌}
use Rattle.covstore.proofs.Summing.{summing_next, summing_room}
use Rattle.covstore.proofs.stage.point_run.stage_one_by_one.Goals as goal

pub stage_addend-requires : goal.stage_addend-requires
stage_addend-requires g c = record {
  follows = c.loop-item.invariant.3;
  room = summing_room g.K.Key.cmp g.S.PointSum.above g.Q.Query.named g.M.Addend.sum c.args.run.now c.args.points.now.staged c.args.kept.now.staged c.in-Some.item.now c.loop-item.rest.now c.in-Some.others.now
      c.loop-item.points.staged c.loop-item.kept.staged c.in-Some.ensures.cases.0 c.loop-item.invariant.0;
}

pub loop-item-preserved : goal.loop-item-preserved
loop-item-preserved g c =
    let l = c.loop-item in
    let e = c.stage_addend.ensures in
    let step = c.in_ok-stage_addend.ensures in (
      summing_next g.K.Key.cmp g.S.PointSum.above g.Q.Query.named g.M.Addend.sum c.args.run.now c.args.points.now.staged c.args.kept.now.staged c.in-Some.item.now l.rest.now c.in-Some.others.now l.points.staged l.kept.staged
          c.in-Some.ensures.cases.0 l.invariant.0 c.stage_addend.new.points.staged c.stage_addend.new.kept.staged step.test step.counts step.few,
      e.test_committed ∙ l.invariant.1,
      e.index_committed ∙ l.invariant.2,
      e.follows,
      λ none. e.counted (l.invariant.4 none),
    )

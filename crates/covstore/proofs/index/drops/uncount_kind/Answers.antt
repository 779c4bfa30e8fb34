use Rattle.covstore.proofs.Words.{◌∙◌, List, ap, subst, MapData, TestCounts, LosesTest}
use Rattle.covstore.proofs.KindSteps.{counted_committed, sole_dropped}
use Rattle.covstore.proofs.index.drops.uncount_kind.Goals as goal
use Rattle.covstore.proofs.index.drops.uncount_kind.Goals.{in-OfOneTest+in-Some-1, in-OfOneTest+in-None-1, in-OfTests}

pub returns-clause-committed : goal.returns-clause-committed
returns-clause-committed g c =
    let above = g.S.PointSum.above in
    let points = c.args.points.now in
    elim c.match-kept.branch [
      | in-OfOneTest+in-Some-1 w ↦
          rw w.kept-inside-is
          (sole_dropped g.K.Key.cmp above c.args.kept.now c.kept.inside.counts _ c.kept.view_is w.in-OfOneTest.is points c.requires.follows w.none.result (ap (λ (p : MapData g.row.K.Denot g.row.S.Denot). p.committed) w.none.ensures))
      | in-OfOneTest+in-None-1 w ↦
          rw w.kept-inside-is
          (sole_dropped g.K.Key.cmp above c.args.kept.now c.kept.inside.counts _ c.kept.view_is w.in-OfOneTest.is points c.requires.follows w.none.result (ap (λ (p : MapData g.row.K.Denot g.row.S.Denot). p.committed) w.none.ensures))
      | in-OfTests w ↦
          rw w.kept-inside-is
          (subst (λ (own : List (g.row.K.Denot × TestCounts)). LosesTest g.K.Key.cmp above points.committed own w.drop_counted.new.kept.committed)
          (ap (λ (k : MapData g.row.K.Denot TestCounts). k.committed) w.get_mut.ensures.value ∙ counted_committed g.K.Key.cmp above c.args.kept.now c.kept.inside.counts _ c.kept.view_is w.in-OfTests.is) w.drop_counted.ensures.committed)
    ]

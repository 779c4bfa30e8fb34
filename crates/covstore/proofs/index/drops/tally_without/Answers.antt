use Rattle.covstore.proofs.Words.{◌∙◌, List, ap, refl, subst, MapData, TestCounts, IsTallyWithout}
use Rattle.covstore.proofs.KindSteps.{counted_committed, sole_without}
use Rattle.covstore.proofs.index.drops.tally_without.Goals as goal

pub returns-in-OfOneTest : goal.returns-in-OfOneTest
returns-in-OfOneTest g c =
    sole_without g.K.Key.cmp g.S.PointSum.above c.args.kept.now c.kept.inside.counts c.in-OfOneTest.field-0 c.kept.view_is c.in-OfOneTest.is c.args.points.now c.requires.follows
    (record { total = g.K.Key.total; exact = g.K.Key.exact }) (record { found = 0; hit = 0 }) refl refl

pub returns-in-OfTests : goal.returns-in-OfTests
returns-in-OfTests g c =
    subst (λ (own : List (g.row.K.Denot × TestCounts)). IsTallyWithout g.K.Key.cmp g.S.PointSum.above c.args.points.now.committed own c.tally_without_counted.result)
    (ap (λ (k : MapData g.row.K.Denot TestCounts). k.committed) c.get.ensures ∙ counted_committed g.K.Key.cmp g.S.PointSum.above c.args.kept.now c.kept.inside.counts c.in-OfTests.counts c.kept.view_is c.in-OfTests.is) c.tally_without_counted.ensures

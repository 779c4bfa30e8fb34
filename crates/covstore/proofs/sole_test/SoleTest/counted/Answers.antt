use Rattle.covstore.proofs.Words.{List, ap, sym, subst, ◌∙◌, MapData, TestCounts, IsTallyOf}
use Rattle.covstore.specs.SoleTest.{counts_of}
use Rattle.covstore.proofs.sole_test.SoleTest.counted.Goals as goal

pub of-requires-clause-committed : goal.of-requires-clause-committed
of-requires-clause-committed g c =
    let totals = c.self.inside.totals in
    subst (λ (counts : List (g.row.K.Denot × TestCounts)). IsTallyOf counts totals) (sym c.in_ok-counts.ensures.committed)
    (subst (λ (points : MapData g.row.K.Denot g.row.S.Denot). IsTallyOf (counts_of g.S.PointSum.above points.committed) totals) (c.self.view_is ∙ c.requires) c.self.invariant.0)

pub of-requires-clause-staged : goal.of-requires-clause-staged
of-requires-clause-staged g c =
    let totals = c.self.inside.staged_totals in
    subst (λ (counts : List (g.row.K.Denot × TestCounts)). IsTallyOf counts totals) (sym c.in_ok-counts.ensures.staged)
    (subst (λ (points : MapData g.row.K.Denot g.row.S.Denot). IsTallyOf (counts_of g.S.PointSum.above points.staged) totals) (c.self.view_is ∙ c.requires) c.self.invariant.1)

pub returns-clause-committed : goal.returns-clause-committed
returns-clause-committed g c =
    ap (λ (counts : MapData g.row.K.Denot TestCounts). counts.committed) c.of.ensures ∙ c.in_ok-counts.ensures.committed
    ∙ ap (λ (points : MapData g.row.K.Denot g.row.S.Denot). counts_of g.S.PointSum.above points.committed) (sym c.requires)

pub returns-clause-staged : goal.returns-clause-staged
returns-clause-staged g c =
    ap (λ (counts : MapData g.row.K.Denot TestCounts). counts.staged) c.of.ensures ∙ c.in_ok-counts.ensures.staged
    ∙ ap (λ (points : MapData g.row.K.Denot g.row.S.Denot). counts_of g.S.PointSum.above points.staged) (sym c.requires)

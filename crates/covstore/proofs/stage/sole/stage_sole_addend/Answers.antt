use Rattle.covstore.proofs.Words.{◌≡◌, Option, List, ap, sym, subst, ◌∙◌, value_of, KeepsCountsOfKind, change_of}
use Rattle.covstore.specs.SoleTest.{counts_of}
use Rattle.covstore.proofs.SoleSteps.{few_put, found_by_put, hit_by_put, put_alone}
use Rattle.covstore.proofs.stage.sole.stage_sole_addend.Goals as goal

pub follow-requires-clause-found : goal.follow-requires-clause-found
follow-requires-clause-found g c =
    let above = g.S.PointSum.above in
    let key = g.Q.Query.named c.args.query in
    let points = c.args.points.now.staged in
    let added = c.in-Ok.added in
    let e = c.in-Ok.ensures in
    let told : c.report-change.result ≡ change_of above (value_of g.K.Key.cmp key points) added.after =
    c.report-change.ensures ∙ g.met.M.PointAddend.tells c.args.addend added.before added.after ∙ ap (λ (own : Option g.row.S.Denot). change_of above own added.after) e.before in
    rw (e.ok, c.requires.follows, told) (found_by_put above (record { total = g.K.Key.total; exact = g.K.Key.exact }) key added.after points c.stage_sum.ensures.staged)

pub follow-requires-clause-hit : goal.follow-requires-clause-hit
follow-requires-clause-hit g c =
    let above = g.S.PointSum.above in
    let key = g.Q.Query.named c.args.query in
    let points = c.args.points.now.staged in
    let before = value_of g.K.Key.cmp key points in
    let added = c.in-Ok.added in
    let e = c.in-Ok.ensures in
    let told : c.report-change.result ≡ change_of above before added.after =
    c.report-change.ensures ∙ g.met.M.PointAddend.tells c.args.addend added.before added.after ∙ ap (λ (own : Option g.row.S.Denot). change_of above own added.after) e.before in
    rw (e.ok, c.requires.follows, told)
    (hit_by_put above (record { total = g.K.Key.total; exact = g.K.Key.exact }) key added.after points c.stage_sum.ensures.staged
    (λ was. ap above (e.after ∙ ap (g.M.Addend.sum c.args.addend) e.before) ∙ g.met.M.PointAddend.stays c.args.addend before was))

pub returns-clause-counts : goal.returns-clause-counts
returns-clause-counts g c =
    let above = g.S.PointSum.above in
    let points = c.args.points.now.staged in
    subst (λ (after : List (g.row.K.Denot × g.row.S.Denot)). KeepsCountsOfKind g.K.Key.cmp above points after (counts_of above points) (counts_of above after)) (sym c.in-Ok.ensures.ok)
    (put_alone above (record { total = g.K.Key.total; exact = g.K.Key.exact }) (g.Q.Query.named c.args.query) c.in-Ok.added.after points)

pub returns-clause-few : goal.returns-clause-few
returns-clause-few g c =
    rw c.in-Ok.ensures.ok
    (few_put g.S.PointSum.above (record { total = g.K.Key.total; exact = g.K.Key.exact }) (g.Q.Query.named c.args.query) c.in-Ok.added.after c.args.points.now.staged c.stage_sum.ensures.staged)

use Rattle.std.proofs.Common.{List, subst}
use Rattle.covread.specs.declared.trace.points.Hit.{Hit}
use Rattle.covread.specs.declared.trace.points.Points.{Points}
use Rattle.covread.specs.TracePoints.{Counts, IsTally, hits_said}
use Rattle.covread.proofs.TracePoints.{totals_are}
use Rattle.covread.proofs.trace.points.totals_of.Goals as goal

pub returns-in-Ascending : goal.returns-in-Ascending
returns-in-Ascending g c =
    let items = c.args.items.now in
    let points = g.P.Point.points in
    totals_are points g.P.Ord.cmp c.tally.result items
    (c.tally.ensures (hits_said points items) (subst (λ (p : Points g.row.P.Denot). Counts g.P.Ord.cmp p (hits_said points items)) c.in-Ascending.is c.requires.counts))

pub returns-in_ok-hits_of-in-Scattered : goal.returns-in_ok-hits_of-in-Scattered
returns-in_ok-hits_of-in-Scattered g c =
    let items = c.args.items.now in
    let points = g.P.Point.points in
    totals_are points g.P.Ord.cmp c.sorted_totals.result items
    (subst (λ (hits : List (Hit g.row.P.Denot)). IsTally g.P.Ord.cmp c.sorted_totals.result hits) c.in_ok-hits_of-in-Scattered.ensures c.sorted_totals.ensures)

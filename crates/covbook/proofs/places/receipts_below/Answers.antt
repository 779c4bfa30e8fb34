use Rattle.std.proofs.Common.{map, arith}
use Rattle.covbook.specs.Gather.{places_in}
use Rattle.covbook.specs.LogView.{log_data}
use Rattle.covbook.proofs.LogPlaces.{rest_below, rise_at}
use Rattle.covbook.proofs.PlaceCounts.{below_most}
use Rattle.covbook.proofs.places.receipts_below.Goals as goal

pub log_below-count-requires : goal.log_below-count-requires
log_below-count-requires g c = rise_at (log_data {A = g.row.A.Denot}) c.args.logs.now c.loop-log.log-index c.log-item.result c.loop-log-test.true c.log-item.is c.requires.rise

-- no place comes twice, so at most `place` places are below `place`
pub overflow_add-count : goal.overflow_add-count
overflow_add-count g c =
    let f = log_data {A = g.row.A.Denot} in
    let left = rest_below f c.args.logs.now c.loop-log.log-index c.log-item.result c.args.place c.loop-log-test.true c.log-item.is in
    let most = below_most (places_in (map f c.args.logs.now)) c.requires.once c.args.place in
    omega (arith, c.loop-log.invariant, left, most, c.log_below-count.ensures, c.ranges.place.fits)

pub loop-log-preserved : goal.loop-log-preserved
loop-log-preserved g c =
    let left = rest_below (log_data {A = g.row.A.Denot}) c.args.logs.now c.loop-log.log-index c.log-item.result c.args.place c.loop-log-test.true c.log-item.is in
    omega (arith, c.loop-log.invariant, left, c.log_below-count.ensures)

use Rattle.covworkers.proofs.ReadAfter.{on_ok, reads_once}
use Rattle.covworkers.proofs.worker.read_once.Goals as goal

pub returns : goal.returns
returns g c =
    on_ok c.push.result
    (reads_once c.args.news.now c.learn.new.self c.totals.new.self c.totals.result c.args.readings.now c.push.new.self c.learn.ensures.news c.totals.ensures.own c.totals.ensures.legal
    c.totals.ensures.upto c.totals.ensures.totals) c.push.ensures.ok

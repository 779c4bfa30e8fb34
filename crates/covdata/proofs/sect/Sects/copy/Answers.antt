use Rattle.covdata.specs.SectView.{sect_data}
use Rattle.covdata.proofs.Copied.{copied_more}
use Rattle.covdata.proofs.sect.Sects.copy.Goals as goal

pub loop-sect-preserved : goal.loop-sect-preserved
loop-sect-preserved g c =
    copied_more (sect_data {A = g.row.A.Denot}) c.get-sect-items.result.now c.loop-sect.sect-index c.sect-item.result c.loop-sect-test.true c.sect-item.is
    c.loop-sect.copy c.push_copy.new.self c.loop-sect.invariant c.in_ok-push_copy.ensures

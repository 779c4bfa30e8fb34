use Rattle.covdata.specs.Row.{item_data}
use Rattle.covdata.proofs.Copied.{copied_more}
use Rattle.covdata.proofs.item.Items.copy.Goals as goal

pub loop-item-preserved : goal.loop-item-preserved
loop-item-preserved g c =
    copied_more (item_data {A = g.row.A.Denot}) c.get-item-items.result.now c.loop-item.item-index c.item-item.result c.loop-item-test.true c.item-item.is
    c.loop-item.copy c.push_copy.new.self c.loop-item.invariant c.in_ok-push_copy.ensures

use Rattle.covstore.proofs.TextsAscend.{ascend_end}
use Rattle.covstore.proofs.held_checksums.checked_lines_ascend.Goals as goal

pub returns : goal.returns
returns c = λ is. ascend_end c.args.items.now c.loop-item.item-iterator c.loop-item.least c.in-None.ensures.steps.0 c.loop-item.invariant

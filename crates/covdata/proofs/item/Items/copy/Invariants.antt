use Rattle.std.proofs.Common.{◌≡◌, map, take}
use Rattle.covdata.specs.Row.{item_data}
use Rattle.covdata.proofs.item.Items.copy.Given as goal

-- so far the copy has the items that were passed
abbrev pub invariant-loop-item : goal.invariant-loop-item
invariant-loop-item g l = l.copy ≡ map item_data (take l.item-index l.item-items)

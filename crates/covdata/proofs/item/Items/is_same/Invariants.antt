use Rattle.std.proofs.Common.{◌≡◌, map, take}
use Rattle.covdata.specs.Row.{item_data}
use Rattle.covdata.proofs.item.Items.is_same.Given as goal

-- so far the items are equal
abbrev pub invariant-loop-index : goal.invariant-loop-index
invariant-loop-index g l = map item_data (take l.index l.items) ≡ map item_data (take l.index l.others)

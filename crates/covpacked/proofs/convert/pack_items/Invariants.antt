use Rattle.std.proofs.Common.{◌≡◌, ◌++◌, map, take}
use Rattle.covdata.specs.Row.{item_data}
use Rattle.covpacked.proofs.convert.pack_items.Given as goal

-- so far the open section has the items that were passed
abbrev pub invariant-loop-item : goal.invariant-loop-item
invariant-loop-item g l = record {
  sects : l.sects.sects ≡ l.initial.sects.sects;
  items : l.sects.items ≡ l.initial.sects.items ++ map item_data (take l.item-index l.items);
}

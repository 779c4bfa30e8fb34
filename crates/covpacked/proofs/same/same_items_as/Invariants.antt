use Rattle.std.proofs.Common.{◌≡◌, ◌↔◌, ◌+◌, length, drop, map}
use Rattle.covdata.specs.Row.{item_data}
use Rattle.covpacked.proofs.same.same_items_as.Given as goal

-- so far the items are equal
abbrev pub invariant-loop-item : goal.invariant-loop-item
invariant-loop-item g l = record {
  lengths : length l.packed + l.item-index ≡ length l.items;
  same : (l.packed ≡ map item_data (drop l.item-index l.items)) ↔ (l.fn.first ≡ map item_data l.items);
}

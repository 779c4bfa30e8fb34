use Rattle.std.proofs.Common.{◌≡◌, ◌↔◌, length}
use Rattle.covpacked.proofs.same.same_items.Given as goal

-- so far the items are equal
abbrev pub invariant-loop-item : goal.invariant-loop-item
invariant-loop-item l = record {
  lengths : length l.item-iterator ≡ length l.others;
  same : (l.item-iterator ≡ l.others) ↔ (l.fn.first ≡ l.fn.second);
}

use Rattle.std.proofs.Common.{◌≡◌, ◌++◌}
use Rattle.covpacked.proofs.convert.unpacked_items.Given as goal

-- the items so far, and those that are left, are all items
abbrev pub invariant-loop-item : goal.invariant-loop-item
invariant-loop-item g l = l.items ++ l.item-iterator ≡ l.fn.packed

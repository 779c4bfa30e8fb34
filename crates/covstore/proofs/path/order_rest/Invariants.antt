use Rattle.covstore.proofs.Words.{◌-◌, ◌≡◌, ◌≤◌, drop, slice_cmp, nat_cmp}
use Rattle.covstore.proofs.path.order_rest.Given as goal

-- the bytes between the start and this index are equal, so the bytes from here on decide the order
abbrev pub invariant-loop-at : goal.invariant-loop-at
invariant-loop-at l = record {
  within : l.at ≤ l.both;
  alike : slice_cmp nat_cmp (drop l.start l.a) (drop l.start l.b) ≡ slice_cmp nat_cmp (drop l.at l.a) (drop l.at l.b);
}

abbrev pub decreases-loop-at : goal.decreases-loop-at
decreases-loop-at l = l.both - l.at

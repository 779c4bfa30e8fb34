use Rattle.covstore.proofs.Words.{◌-◌, ◌≡◌, ◌≤◌, drop, slice_cmp, nat_cmp}
use Rattle.covstore.proofs.path.order_bytes.Given as goal

-- the bytes before this index are equal, so the bytes from here on decide the order
abbrev pub invariant-loop-at : goal.invariant-loop-at
invariant-loop-at l = record {
  within : l.at ≤ l.both;
  alike : slice_cmp nat_cmp l.a l.b ≡ slice_cmp nat_cmp (drop l.at l.a) (drop l.at l.b);
}

abbrev pub decreases-loop-at : goal.decreases-loop-at
decreases-loop-at l = l.both - l.at

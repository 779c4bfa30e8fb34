use Rattle.std.proofs.Common.{◌≡◌, ◌≤◌, ℕ, List, [], Option, length, map, take}
use Rattle.covread.specs.TraceFunctions.{AreFunctions}
use Rattle.covread.specs.TraceSection.{mark}
use Rattle.covread.specs.TraceSettle.{IsSettled, names_in}
use Rattle.covread.proofs.trace.settle.settle_counts.Given as goal

abbrev pub invariant-loop-count : goal.invariant-loop-count
invariant-loop-count g l = record {
  settled : (starts : List ℕ → Option ℕ) → AreFunctions l.initial.functions starts [] → IsSettled starts (map mark (take l.count-index l.waiting)) l.counts.hit l.counts.unstarted.items l.initial.sects.items l.sects.items;
  marked : (starts : List ℕ → Option ℕ) → AreFunctions l.initial.functions starts [] → AreFunctions l.functions starts (names_in starts (map mark (take l.count-index l.waiting)));
  long : length l.sects.items ≡ length l.initial.sects.items;
  sects : l.sects.sects ≡ l.initial.sects.sects;
  few : l.counts.hit ≤ l.count-index;
}

use Rattle.std.proofs.Common.{◌≡◌, ◌+◌, ◌≤◌, ◌++◌, drop, length, take}
use Rattle.covpacked.specs.OpenItems.{left}
use Rattle.covpacked.proofs.packed_sects.remove_words.Given as goal

-- the words in front are those that are left so far, and the words behind `place` are as they were
abbrev pub invariant-loop-place : goal.invariant-loop-place
invariant-loop-place g l = record {
  same : take l.fn.from l.initial.words.items ++ left 0 l.initial.places (drop l.fn.from l.initial.words.items) ≡ take l.kept l.words.items ++ left l.place l.places (drop (l.fn.from + l.place) l.words.items);
  few : l.kept ≤ l.fn.from + l.place;
  length : length l.words.items ≡ length l.initial.words.items;
}

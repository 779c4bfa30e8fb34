use Rattle.std.proofs.Common.{◌≡◌, false, map, take}
use Rattle.std.specs.List.{list_any}
use Rattle.covread.specs.TraceTally.{states, stated_record}
use Rattle.covread.proofs.trace.tally.any_states.Given as goal

abbrev pub invariant-loop-stated : goal.invariant-loop-stated
invariant-loop-stated l = list_any (states l.sort) (map stated_record (take l.stated-index l.totals)) ≡ false

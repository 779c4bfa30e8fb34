use Rattle.std.proofs.Common.{◌≡◌, ◌≤◌, map, take}
use Rattle.std.specs.Prelude.{count_by}
use Rattle.covread.specs.TraceTally.{differs, stated_record}
use Rattle.covread.proofs.trace.tally.count_odd.Given as goal

abbrev pub invariant-loop-stated : goal.invariant-loop-stated
invariant-loop-stated l = (l.odd ≡ count_by (differs l.own) (map stated_record (take l.stated-index l.totals))) × (l.odd ≤ l.stated-index)

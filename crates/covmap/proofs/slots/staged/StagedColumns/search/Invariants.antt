use Rattle.std.proofs.Common.{◌-◌, ◌≤◌, length}
use Rattle.std.specs.Prelude.{nat_lt}
use Rattle.covmap.specs.Slots.{lead}
use Rattle.covmap.proofs.slots.staged.StagedColumns.search.Given as goal

-- the index is between `low` and `high`
abbrev pub invariant-loop-low : goal.invariant-loop-low
invariant-loop-low g l = (l.low ≤ lead (λ column. nat_lt column.0 l.fn.page) l.self) × (lead (λ column. nat_lt column.0 l.fn.page) l.self ≤ l.high) × (l.high ≤ length l.self)

abbrev pub decreases-loop-low : goal.decreases-loop-low
decreases-loop-low g l = l.high - l.low

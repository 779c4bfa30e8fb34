use Rattle.std.proofs.Common.{◌-◌, ◌≤◌, length}
use Rattle.covmap.specs.Slots.{is_before, lead}
use Rattle.covmap.proofs.slots.page.Page.index_of.Given as goal

abbrev pub invariant-loop-low : goal.invariant-loop-low
invariant-loop-low g l = (l.low ≤ lead (is_before (λ (key : g.row.K.Denot). g.K.Key.cmp key (g.Q.Query.named l.fn.query))) l.self) × (lead (is_before (λ (key : g.row.K.Denot). g.K.Key.cmp key (g.Q.Query.named l.fn.query))) l.self ≤ l.high) × (l.high ≤ length l.self)

abbrev pub decreases-loop-low : goal.decreases-loop-low
decreases-loop-low g l = l.high - l.low

use Rattle.std.proofs.Common.{◌≡◌, ◌-◌, length}
use Rattle.covmap.specs.Slots.{filled, slots_of}
use Rattle.covmap.specs.Staged.{AreColumnsOf, staged_of}
use Rattle.covmap.proofs.slots.run.make_ahead.Given as goal

-- only empty slots are new
abbrev pub invariant-loop-count : goal.invariant-loop-count
invariant-loop-count g l = AreColumnsOf l.slots l.staged
    × (filled (slots_of l.slots) ≡ filled (slots_of l.fn.slots))
    × (filled (slots_of (staged_of l.slots l.staged)) ≡ filled (slots_of (staged_of l.fn.slots l.fn.staged)))

abbrev pub decreases-loop-count : goal.decreases-loop-count
decreases-loop-count g l = length l.run - l.count

use Rattle.std.proofs.Common.{◌≡◌, length}
use Rattle.covmap.specs.Staged.{AreColumnsOf, staged_of}
use Rattle.covmap.proofs.map.StagedMap.commit.Given as goal

-- the staged entries stay
abbrev pub invariant-loop-number : goal.invariant-loop-number
invariant-loop-number g l = AreColumnsOf l.self-inside.slots l.self-inside.staged
    × (staged_of l.self-inside.slots l.self-inside.staged ≡ staged_of l.initial.self-inside.slots l.initial.self-inside.staged)

abbrev pub decreases-loop-number : goal.decreases-loop-number
decreases-loop-number g l = length l.self-inside.staged

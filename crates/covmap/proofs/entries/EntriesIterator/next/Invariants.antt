use Rattle.std.proofs.Common.{◌≡◌, ◌+◌, ◌++◌, length}
use Rattle.covmap.specs.Slots.{filled, slots_of}
use Rattle.covmap.proofs.entries.EntriesIterator.next.Given as goal

-- what is left to give stays the same
abbrev pub invariant-loop-key : goal.invariant-loop-key
invariant-loop-key g l = filled l.self-inside.page ++ filled (slots_of l.self-inside.pages.now)
    ≡ filled l.initial.self-inside.page ++ filled (slots_of l.initial.self-inside.pages.now)

abbrev pub decreases-loop-key : goal.decreases-loop-key
decreases-loop-key g l = length l.self-inside.page + (length (slots_of l.self-inside.pages.now) + length l.self-inside.pages.now)

use Rattle.std.proofs.Common.{◌≡◌, ◌+◌, ◌-◌, ◌≤◌, ◌++◌, length}
use Rattle.covmap.specs.Slots.{empty}
use Rattle.covmap.proofs.slots.page.fill_up.Given as goal

-- this number of empty values was appended, and no more than needed
abbrev pub invariant-loop-column : goal.invariant-loop-column
invariant-loop-column g l = (l.column.items ≡ l.initial.column.items ++ empty (length l.column.items - length l.initial.column.items))
    × (length l.initial.column.items ≤ length l.column.items)
    × (length l.column.items ≤ length l.initial.column.items + (l.len - length l.initial.column.items))

abbrev pub decreases-loop-column : goal.decreases-loop-column
decreases-loop-column g l = l.len - length l.column.items

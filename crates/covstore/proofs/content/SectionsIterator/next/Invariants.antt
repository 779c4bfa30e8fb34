use Rattle.std.proofs.Common.{◌≡◌, length}
use Rattle.covstore.specs.ContentView.{sections_left}
use Rattle.covstore.proofs.content.SectionsIterator.next.Given as goal

-- the sections that are left to give stay the same
abbrev pub invariant-loop-next : goal.invariant-loop-next
invariant-loop-next g l = sections_left (λ name. name.items) l.self-inside.current l.self-inside.files ≡ sections_left (λ name. name.items) l.initial.self-inside.current l.initial.self-inside.files

abbrev pub decreases-loop-next : goal.decreases-loop-next
decreases-loop-next g l = length l.self-inside.files

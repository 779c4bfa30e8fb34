use Rattle.covstore.proofs.Words.{◌≡◌, length, file_committed}
use Rattle.covstore.proofs.Settled.{IsSettling}
use Rattle.covstore.proofs.store.Store.rollback.Given as goal

abbrev pub invariant-loop-touched : goal.invariant-loop-touched
invariant-loop-touched g l =
    IsSettling file_committed l.self-inside.touched.items l.initial.self-inside.files.entries l.self-inside.files.entries
    × (l.self-inside.members ≡ l.initial.self-inside.members) × (l.self-inside.totals ≡ l.initial.self-inside.totals)

abbrev pub decreases-loop-touched : goal.decreases-loop-touched
decreases-loop-touched g l = length l.self-inside.touched.items

use Rattle.covstore.proofs.Words.{◌≡◌, length, files_committed}
use Rattle.covstore.specs.FilesView.{files_with_points}
use Rattle.covstore.proofs.files.FilesIterator.next.Given as goal

-- the files that are left to give stay the same
abbrev pub invariant-loop-name : goal.invariant-loop-name
invariant-loop-name g l = files_with_points (files_committed (λ name. name.items) l.self-inside.files) ≡ files_with_points (files_committed (λ name. name.items) l.initial.self-inside.files)

abbrev pub decreases-loop-name : goal.decreases-loop-name
decreases-loop-name g l = length l.self-inside.files

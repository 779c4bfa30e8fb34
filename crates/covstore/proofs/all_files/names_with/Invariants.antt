use Rattle.covstore.proofs.Words.{files_committed, names_with}
use Rattle.std.specs.Prelude.{◌≡◌, ◌++◌, map}
use Rattle.covstore.proofs.Settled.{file_name}
use Rattle.covstore.proofs.all_files.names_with.Given as goal

abbrev pub invariant-loop-name : goal.invariant-loop-name
invariant-loop-name g l =
    (goal.iterator-loop-name g).can_next l.name-iterator × (goal.iterator-loop-name g).is_finite l.name-iterator
    × (map file_name l.names.items ++ names_with l.test (files_committed file_name l.name-iterator) ≡ names_with l.test (files_committed file_name l.files.entries))

use Rattle.covstore.specs.StoreView.{files_committed}
use Rattle.covstore.proofs.DropsSections.{AreCounted}
use Rattle.covstore.proofs.Settled.{file_name}
use Rattle.covstore.proofs.all_files.count_sections.Given as goal

abbrev pub invariant-loop-file : goal.invariant-loop-file
invariant-loop-file g l =
    (goal.iterator-loop-file g).can_next l.file-iterator × (goal.iterator-loop-file g).is_finite l.file-iterator
    × AreCounted l.test (files_committed file_name l.files.entries) (files_committed file_name l.file-iterator) l.sections

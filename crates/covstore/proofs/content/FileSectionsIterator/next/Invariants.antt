use Rattle.std.proofs.Common.{◌≡◌, length}
use Rattle.covstore.specs.ContentView.{tests_seen}
use Rattle.covstore.proofs.content.FileSectionsIterator.next.Given as goal

-- the sections that are left to give stay the same
abbrev pub invariant-loop-test : goal.invariant-loop-test
invariant-loop-test g l = tests_seen (λ name. name.items) l.self-inside.file.now l.self-inside.index.now.checksums.texts l.self-inside.tests
    ≡ tests_seen (λ name. name.items) l.initial.self-inside.file.now l.initial.self-inside.index.now.checksums.texts l.initial.self-inside.tests

abbrev pub decreases-loop-test : goal.decreases-loop-test
decreases-loop-test g l = length l.self-inside.tests

-- The index of a file, seen as plain data: committed, and staged.
use Rattle.std.specs.Prelude.{[]}
use Rattle.covstore.specs.declared.index.FileIndex.{FileIndex}
use Rattle.covstore.specs.FileIndex.{FileIndexData, KeepsIndex}

abbrev pub empty_index : FileIndexData
empty_index = record { counts = record { lines = []; functions = []; branches = [] }; holders = []; texts = [] }

abbrev pub index_committed : {A : Type 0} → FileIndex A → FileIndexData
index_committed index = record {
  counts = record { lines = index.lines.committed; functions = index.functions.committed; branches = index.branches.committed };
  holders = index.checksums.committed;
  texts = index.checksums.texts;
}

abbrev pub index_staged : {A : Type 0} → FileIndex A → FileIndexData
index_staged index = record {
  counts = record { lines = index.lines.staged; functions = index.functions.staged; branches = index.branches.staged };
  holders = index.checksums.staged;
  texts = index.checksums.texts;
}

-- the committed numbers stay, and so does each committed checksum that a test holds
abbrev pub KeepsCommitted : {A : Type 0} → FileIndex A → FileIndex A → Type 0
KeepsCommitted before after = KeepsIndex (index_committed before) (index_committed after)

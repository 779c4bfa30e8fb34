-- What contracts see of a `File`: its tests and its index.
use Rattle.std.specs.Prelude.{ℕ, List, Vec}
use Rattle.covstore.specs.declared.index.FileIndex.{FileIndex}
use Rattle.covstore.specs.declared.test.Test.{Test}

-- the tests with their names, ascending
pub record FileTests (A : Type 0) : Type 0 where
  pub entries : List (Vec ℕ A × Test A)

-- the tests and the index
pub record FileParts (A : Type 0) : Type 0 where
  pub tests : FileTests A
  pub index : FileIndex A

-- A `File`, seen as plain data: committed, and staged.
use Rattle.std.specs.Prelude.{◌≡◌, ℕ, if◌then◌else◌, List, [], map}
use Rattle.std.specs.Cmp.Lexicographic.{slice_cmp}
use Rattle.std.specs.Option.{is_some}
use Rattle.std.specs.Ordering.{nat_cmp}
use Rattle.covstore.specs.declared.file.File.{File}
use Rattle.covstore.specs.FileIndexView.{index_staged, index_committed, empty_index}
use Rattle.covmap.specs.Puts.{put, value_of}
use Rattle.covstore.specs.State.{FileData, file_with}
use Rattle.covstore.specs.Sums.{TestData, test_of}
use Rattle.covstore.specs.TestView.{test_staged, test_committed}
use Rattle.covstore.specs.FileIndex.{KeepsIndex}

abbrev pub file_committed : {A : Type 0} → File A → FileData
file_committed file = file_with (map (λ pair. (pair.0.items, test_committed pair.1)) file.tests.entries) (index_committed file.index)

abbrev pub file_staged : {A : Type 0} → File A → FileData
file_staged file = file_with (map (λ pair. (pair.0.items, test_staged pair.1)) file.tests.entries) (index_staged file.index)

-- a file without tests
abbrev pub no_file : FileData
no_file = file_with [] empty_index

-- the tests, with this test added if it isn't among them. A test that is added has no points
abbrev pub tests_with : List ℕ → List (List ℕ × TestData) → List (List ℕ × TestData)
tests_with test tests = if is_some (value_of (slice_cmp nat_cmp) test tests) then tests else put (slice_cmp nat_cmp) test (test_of []) tests

abbrev pub with_test : List ℕ → FileData → FileData
with_test test file = file_with (tests_with test file.tests) file.index

-- the tests stay. So do the numbers of the index, and each held checksum
pub record KeepsFile (before after : FileData) : Type 0 where
  pub tests : after.tests ≡ before.tests
  pub index : KeepsIndex before.index after.index

-- What staging a section's items does to their test and their file, whatever the other files are; and when the items clash.
use Rattle.std.specs.Prelude.{◌≡◌, ℕ, ◌+◌, ◌≤◌, ◌^◌, Some, None, List, ◌++◌, length}
use Rattle.std.specs.Cmp.Lexicographic.{slice_cmp}
use Rattle.std.specs.Ordering.{nat_cmp}
use Rattle.covdata.specs.Row.{ItemData, Row, SectData, rows_of_sect}
use Rattle.covstore.specs.declared.stage.fault.StageFault.{StageFault}
use Rattle.covstore.specs.declared.stage.fault.StageFault.TheVariants.{Clash, Memory}
use Rattle.covtable.specs.Clash.{ClashData, Agree, checksums_in, clash_of}
use Rattle.covstore.specs.FileIndex.{FileIndexData}
use Rattle.covmap.specs.Puts.{put, value_of}
use Rattle.covstore.specs.State.{FileData, IsStateOf, file_with}
use Rattle.covstore.specs.Sums.{TestData}

-- the files are the state of rows whose checksums agree. The file `file` has these tests and this index, and the test `name` of
-- this file has the points `test`
pub record IsIn (rows : List Row) (files : List (List ℕ × FileData)) (file : List ℕ) (name : List ℕ) (tests : List (List ℕ × TestData)) (test : TestData) (index : FileIndexData) : Type 0 where
  pub state : IsStateOf rows files
  pub agree : Agree (checksums_in rows)
  pub its_file : value_of (slice_cmp nat_cmp) file files ≡ Some (file_with tests index)
  pub its_test : value_of (slice_cmp nat_cmp) name tests ≡ Some test

abbrev pub section_of_items : List ℕ → List ℕ → List ItemData → SectData
section_of_items file name items = record { test = name; file = file; items = items }

-- these files, but the file `file` has these tests and this index, and the test `name` of this file has the points `test`
abbrev pub files_with : List ℕ → List ℕ → List (List ℕ × TestData) → TestData → FileIndexData → List (List ℕ × FileData) → List (List ℕ × FileData)
files_with file name tests test index files = put (slice_cmp nat_cmp) file (file_with (put (slice_cmp nat_cmp) name test tests) index) files

-- the items clash with nothing, and adding them to the test and the index gives `test_after` and `index_after`. This holds
-- whatever the other files are
abbrev pub Adds : List ItemData → TestData → FileIndexData → TestData → FileIndexData → Type 0
Adds items test index test_after index_after =
    (rows : List Row) (files : List (List ℕ × FileData)) (file name : List ℕ) (tests : List (List ℕ × TestData)) → IsIn rows files file name tests test index
    → (clash_of rows (rows_of_sect (section_of_items file name items)) ≡ None)
    × IsIn (rows ++ rows_of_sect (section_of_items file name items)) (files_with file name tests test_after index_after files) file name (put (slice_cmp nat_cmp) name test_after tests) test_after index_after

-- a clash in this file
abbrev pub clash_in_file : List ℕ → ℕ → List ℕ → List ℕ → ClashData
clash_in_file file line held given = record { file = file; line = line; held = held; given = given }

-- whatever the other files are: these items clash, and this is their first clash
abbrev pub ClashesAt : List ItemData → TestData → FileIndexData → ℕ → List ℕ → List ℕ → Type 0
ClashesAt items test index line held given =
    (rows : List Row) (files : List (List ℕ × FileData)) (file name : List ℕ) (tests : List (List ℕ × TestData)) → IsIn rows files file name tests test index
    → clash_of rows (rows_of_sect (section_of_items file name items)) ≡ Some (clash_in_file file line held given)

abbrev pub Clashes : {A : Type 0} → List ItemData → TestData → FileIndexData → StageFault A → Type 0
Clashes items test index Memory = Unit {0}
Clashes items test index (Clash line held given) = ClashesAt items test index line held given

-- the test and the index are those of one of the files that some rows add up to. The number of these rows leaves room for the
-- items. The file has at most 2^63 tests
pub record HasRoomFor (items : List ItemData) (test : TestData) (index : FileIndexData) : Type 0 where
  pub rows : List Row
  pub files : List (List ℕ × FileData)
  pub file : List ℕ
  pub name : List ℕ
  pub tests : List (List ℕ × TestData)
  pub stands : IsIn rows files file name tests test index
  pub few : length rows + length items ≤ 2 ^ 47
  pub few_tests : length tests ≤ 2 ^ 63

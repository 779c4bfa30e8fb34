-- What staging a section's items does to their file, whatever the other files of the store are.
use Rattle.std.specs.Prelude.{◌≡◌, ℕ, ◌+◌, ◌≤◌, ◌^◌, Some, None, List, ◌++◌, length}
use Rattle.std.specs.Cmp.Lexicographic.{slice_cmp}
use Rattle.std.specs.Ordering.{nat_cmp}
use Rattle.covdata.specs.Row.{ItemData, Row, rows_of_sect}
use Rattle.covstore.specs.declared.stage.fault.StageFault.{StageFault}
use Rattle.covstore.specs.declared.stage.fault.StageFault.TheVariants.{Clash, Memory}
use Rattle.covstore.specs.Section.{clash_in_file, section_of_items}
use Rattle.covtable.specs.Clash.{Agree, checksums_in, clash_of}
use Rattle.covmap.specs.Puts.{ArePairs, put, value_of}
use Rattle.covstore.specs.State.{FileData, IsStateOf}
use Rattle.covstore.specs.Store.{KeepsState}

-- whatever the other files are: if `before` is replaced by `after`, the files are still the state of the same rows, with the same
-- totals
abbrev pub KeepsIn : FileData → FileData → Type 0
KeepsIn before after =
    (files : List (List ℕ × FileData)) (name : List ℕ) → ArePairs (slice_cmp nat_cmp) files → value_of (slice_cmp nat_cmp) name files ≡ Some before → KeepsState files (put (slice_cmp nat_cmp) name after files)

-- the files are the state of rows whose checksums agree, and the file of this name is this one
pub record HasFile (rows : List Row) (files : List (List ℕ × FileData)) (name : List ℕ) (file : FileData) : Type 0 where
  pub state : IsStateOf rows files
  pub agree : Agree (checksums_in rows)
  pub there : value_of (slice_cmp nat_cmp) name files ≡ Some file

-- whatever the other files are: `after` is `before` with these items of the test added, and the items clash with nothing
abbrev pub AddsItems : List ItemData → List ℕ → FileData → FileData → Type 0
AddsItems items test before after =
    (rows : List Row) (files : List (List ℕ × FileData)) (name : List ℕ) → HasFile rows files name before
    → (clash_of rows (rows_of_sect (section_of_items name test items)) ≡ None)
    × HasFile (rows ++ rows_of_sect (section_of_items name test items)) (put (slice_cmp nat_cmp) name after files) name after

-- if the fault is a clash, it is the first clash of these items, whatever the other files are
abbrev pub ClashesIn : {A : Type 0} → List ItemData → List ℕ → FileData → StageFault A → Type 0
ClashesIn items test file Memory = Unit {0}
ClashesIn items test file (Clash line held given) =
    (rows : List Row) (files : List (List ℕ × FileData)) (name : List ℕ) → HasFile rows files name file
    → clash_of rows (rows_of_sect (section_of_items name test items)) ≡ Some (clash_in_file name line held given)

-- the file is one of the files that some rows add up to, and the number of these rows leaves room for the items
pub record HasRoomIn (items : List ItemData) (file : FileData) : Type 0 where
  pub rows : List Row
  pub files : List (List ℕ × FileData)
  pub name : List ℕ
  pub stands : HasFile rows files name file
  pub few : length rows + length items ≤ 2 ^ 47

-- When a store's files have room for a section's items, and when the items are refused.
use Rattle.std.specs.Prelude.{◌≡◌, ℕ, ◌+◌, ◌≤◌, ◌^◌, Some, List, length}
use Rattle.covdata.specs.Row.{ItemData, Row, rows_of_sect}
use Rattle.covstore.specs.Section.{section_of_items}
use Rattle.covtable.specs.Clash.{Agree, checksums_in, clash_of}
use Rattle.covstore.specs.FileSection.{HasFile}
use Rattle.covstore.specs.State.{FileData, IsStateOf}
use Rattle.covtable.specs.Refuse.{RefuseData, ClashRefuse, MemoryRefuse}

-- these items of a test of a file, as rows
abbrev pub rows_of_items : List ℕ → List ℕ → List ItemData → List Row
rows_of_items name test items = rows_of_sect (section_of_items name test items)

-- if the refusal is a clash, it is the first clash of these items in the file of this name, whatever the other files are
abbrev pub RefusedIn : List ItemData → List ℕ → List ℕ → FileData → RefuseData → Type 0
RefusedIn items name test file MemoryRefuse = Unit {0}
RefusedIn items name test file (ClashRefuse clash) =
    (rows : List Row) (files : List (List ℕ × FileData)) → HasFile rows files name file → clash_of rows (rows_of_items name test items) ≡ Some clash

-- the files are the state of some rows, whose number leaves room for the added ones
pub record HasRoomAmong (added : List Row) (files : List (List ℕ × FileData)) : Type 0 where
  pub rows : List Row
  pub state : IsStateOf rows files
  pub agree : Agree (checksums_in rows)
  pub few : length rows + length added ≤ 2 ^ 47

-- What rows add up to: a section for each file and test with a row, and in it each point with its value.
use Rattle.std.specs.Prelude.{ℕ, List, Option, map}
use Rattle.covdata.specs.Points.{BranchPoint}
use Rattle.covdata.specs.Row.{ItemData, Row}
use Rattle.covtable.specs.Table.{Table, all_rows}
use Rattle.covtable.specs.Value.{Key, keys_of, items_at, lines_in, line_value, line_checksum, names_in, function_start, function_count, branches_in, branch_value}

-- a function with its start line and its count
pub record FunctionValueData : Type 0 where
  pub line : ℕ
  pub name : List ℕ
  pub count : ℕ

-- a branch, and how often it was taken
pub record BranchValueData : Type 0 where
  pub point : BranchPoint
  pub taken : Option ℕ

-- a line with its count, and its checksum if it has one
pub record LineValueData : Type 0 where
  pub line : ℕ
  pub count : ℕ
  pub checksum : Option (List ℕ)

-- the section of a file and a test: its functions, branches and lines, each in ascending order (functions by their names)
pub record SectionData : Type 0 where
  pub key : Key
  pub functions : List FunctionValueData
  pub branches : List BranchValueData
  pub lines : List LineValueData

abbrev pub function_at : List ItemData → List ℕ → FunctionValueData
function_at items name = record { line = function_start name items; name = name; count = function_count name items }

abbrev pub branch_at : List ItemData → BranchPoint → BranchValueData
branch_at items point = record { point = point; taken = branch_value point items }

abbrev pub line_at : List ItemData → ℕ → LineValueData
line_at items line = record { line = line; count = line_value line items; checksum = line_checksum line items }

-- the section of a file and a test with these items
abbrev pub section_with : Key → List ItemData → SectionData
section_with key items = record {
  key = key;
  functions = map (function_at items) (names_in items);
  branches = map (branch_at items) (branches_in items);
  lines = map (line_at items) (lines_in items);
}

abbrev pub section_of : List Row → Key → SectionData
section_of rows key = section_with key (items_at key rows)

-- the sections of all files and tests with a row, ascending
abbrev pub content_of : List Row → List SectionData
content_of rows = map (section_of rows) (keys_of rows)

abbrev pub content_at : Table → List SectionData
content_at table = content_of (all_rows table)

-- The table of a source file's lines. A row of the table has the line's number, its count, its branches and its text.
use Rattle.std.specs.Prelude.{ℕ, ◌+◌, Bool, false, ◌==◌, nat_lt, is_some, if◌then◌else◌, Option, None, Some, List, [], ◌∷◌, ◌++◌, length, count_by, codes, decimal, flat_map}
use Rattle.covdata.specs.Printed.{taken_text}
use Rattle.covtable.specs.Value.{is_taken}
use Rattle.covtable.specs.Content.{BranchValueData}
use Rattle.covhtml.specs.Rates.{numbers}
use Rattle.covhtml.specs.Shown.{shown}

-- a line with points: its count, if it has one, and its branches
pub record RowData : Type 0 where
  pub number : ℕ
  pub count : Option ℕ
  pub branches : List BranchValueData

-- ---- which rows

-- the line was found, and never run
abbrev pub is_missed : Option ℕ → Bool
is_missed None = false
is_missed (Some count) = count == 0

-- the number of the first of these rows that was never run
abbrev pub first_missed : List RowData → Option ℕ
first_missed [] = None
first_missed (row ∷ rows) = if is_missed row.count then Some row.number else first_missed rows

-- the number of the last of these rows that was never run, or `last` if all were run
abbrev pub last_missed : (last : Option ℕ) → List RowData → Option ℕ
last_missed last [] = last
last_missed last (row ∷ rows) = last_missed (if is_missed row.count then Some row.number else last) rows

-- the rows after a line: those from the first one with a larger number on
abbrev pub rows_after : (line : ℕ) → List RowData → List RowData
rows_after line [] = []
rows_after line (row ∷ rows) = if nat_lt line row.number then row ∷ rows else rows_after line rows

-- ---- the cells of a row

-- the number of a line as a link to the line itself
abbrev pub line_link : ℕ → List ℕ
line_link line = codes "<a href=\"#L" ++ decimal line ++ codes "\">" ++ decimal line ++ codes "</a>"

-- a number by its first two digits and a power of ten, as `1.2e5`. The other digits are cut off
abbrev pub shortened : (digits : List ℕ) → List ℕ
shortened [] = []
shortened (a ∷ []) = a ∷ []
shortened (a ∷ b ∷ digits) = a ∷ 46 ∷ b ∷ 101 ∷ decimal (length (b ∷ digits))

-- a shortened count, with all its digits in the title
abbrev pub shortened_cell : (digits : List ℕ) → List ℕ
shortened_cell digits = codes "<td title=\"" ++ digits ++ codes "\">" ++ shortened digits

-- a count, shortened if it's above 99999
abbrev pub count_cell : ℕ → List ℕ
count_cell count = if nat_lt 99999 count then shortened_cell (decimal count) else codes "<td>" ++ decimal count

-- a link to the next line that was never run, if there is one
abbrev pub next_link : Option ℕ → List ℕ
next_link None = []
next_link (Some line) = codes " <a href=\"#L" ++ decimal line ++ codes "\" title=\"next line not run\">&darr;" ++ decimal line ++ codes "</a>"

-- the count of a line that was never run, with a link to the next one among the later rows
abbrev pub missed_cell : (later : List RowData) → List ℕ
missed_cell later = codes "<td>0" ++ next_link (first_missed later)

-- the count of a line, if it has one
abbrev pub line_count_cell : Option ℕ → (later : List RowData) → List ℕ
line_count_cell None later = codes "<td>"
line_count_cell (Some count) later = if count == 0 then missed_cell later else count_cell count

abbrev pub branches_hit : List BranchValueData → ℕ
branches_hit branches = count_by (λ b. is_taken b.taken) branches

abbrev pub taken_item : BranchValueData → List ℕ
taken_item b = codes " " ++ taken_text b.taken

-- how many branches were taken, of how many, with the count of each one in the title
abbrev pub branch_cell : List BranchValueData → List ℕ
branch_cell branches =
    if length branches == 0
    then codes "<td>"
    else codes "<td title=\"taken" ++ flat_map taken_item branches ++ codes "\">" ++ numbers (branches_hit branches) (length branches)

-- ---- rows

-- how a row is marked: never run, with a branch that was never taken, or run
abbrev pub class_of : RowData → List ℕ
class_of row =
    if is_missed row.count then codes " class=\"n\""
    else if nat_lt (branches_hit row.branches) (length row.branches) then codes " class=\"p\""
    else if is_some row.count then codes " class=\"y\""
    else []

-- the beginning of a row that can be linked to, and its first cell
abbrev pub row_start : (line : ℕ) (class : List ℕ) → List ℕ
row_start line class = codes "<tr id=\"L" ++ decimal line ++ codes "\"" ++ class ++ codes "><td>" ++ line_link line

-- a row up to the beginning of its last cell
abbrev pub row_cells : RowData → (later : List RowData) → List ℕ
row_cells row later = row_start row.number (class_of row) ++ line_count_cell row.count later ++ branch_cell row.branches ++ codes "<td>"

-- the row of a line without points
abbrev pub blank_cells : (line : ℕ) → List ℕ
blank_cells line = row_start line [] ++ codes "<td><td><td>"

-- the cells of a line, of which these are the rows from the line on
abbrev pub cells_of : (line : ℕ) → List RowData → List ℕ
cells_of line [] = blank_cells line
cells_of line (row ∷ rows) = if row.number == line then row_cells row rows else blank_cells line

abbrev pub source_row : (line : ℕ) → List RowData → (text : List ℕ) → List ℕ
source_row line rows text = cells_of line rows ++ shown text ++ codes "\n"

-- the row of a line that the source doesn't have
abbrev pub other_row : RowData → (later : List RowData) → List ℕ
other_row row later = row_cells row later ++ codes "\n"

abbrev pub other_rows : List RowData → List ℕ
other_rows [] = []
other_rows (row ∷ rows) = other_row row rows ++ other_rows rows

-- a row for each line of the source after this line, and then the rows that are left
abbrev pub rows_below : (line : ℕ) → List RowData → (texts : List (List ℕ)) → List ℕ
rows_below line rows [] = other_rows (rows_after line rows)
rows_below line rows (text ∷ texts) = source_row (line + 1) (rows_after line rows) text ++ rows_below (line + 1) rows texts

-- the row of line 0, which no source has, if there is one
abbrev pub row_zero : List RowData → List ℕ
row_zero [] = []
row_zero (row ∷ rows) = if row.number == 0 then other_row row rows else []

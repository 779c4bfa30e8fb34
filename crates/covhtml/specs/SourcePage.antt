-- The page of a source file.
use Rattle.std.specs.Prelude.{ℕ, ◌==◌, if◌then◌else◌, Option, None, Some, List, [], ◌∷◌, ◌++◌, length, codes, flat_map}
use Rattle.covline.specs.Lines.{lines_of}
use Rattle.covtable.specs.Content.{FunctionValueData}
use Rattle.covtable.specs.declared.totals.Totals.{Totals}
use Rattle.covhtml.specs.Frame.{head, heading}
use Rattle.covhtml.specs.Rates.{cards, totals_cells}
use Rattle.covhtml.specs.Rows.{RowData, count_cell, first_missed, last_missed, line_link, row_zero, rows_below}
use Rattle.covhtml.specs.Shown.{shown}
use Rattle.covhtml.specs.declared.markup.TheConstants.{BACK, FOOT, FUNCTIONS, LINES, TABLE_END, TESTS}

-- what a test has of the file
pub record TestTotalsData : Type 0 where
  pub test : List ℕ
  pub totals : Totals

-- what the page shows: the file's path, its totals, its functions, its tests if there are several, its lines with points, and its source
pub record SourcePageData : Type 0 where
  pub path : List ℕ
  pub totals : Totals
  pub functions : List FunctionValueData
  pub tests : List TestTotalsData
  pub rows : List RowData
  pub source : List ℕ

-- the name, the start line and the count of a function
abbrev pub function_row : FunctionValueData → List ℕ
function_row f = codes "<tr><td>" ++ shown f.name ++ codes "<td>" ++ line_link f.line ++ count_cell f.count ++ codes "\n"

-- the table of functions; no table if there are no functions
abbrev pub function_table : List FunctionValueData → List ℕ
function_table functions =
    if length functions == 0 then [] else FUNCTIONS.now ++ flat_map function_row functions ++ TABLE_END.now ++ codes "</details>\n"

-- the name of a test, which may be empty
abbrev pub test_name : List ℕ → List ℕ
test_name [] = codes "<i>no name</i>"
test_name (b ∷ name) = shown (b ∷ name)

-- the name of a test, and the totals of the file in this test
abbrev pub test_row : TestTotalsData → List ℕ
test_row t = codes "<tr><th scope=\"row\">" ++ test_name t.test ++ totals_cells t.totals

-- the table of tests; no table if there are no tests
abbrev pub test_table : List TestTotalsData → List ℕ
test_table tests = if length tests == 0 then [] else TESTS.now ++ flat_map test_row tests ++ TABLE_END.now ++ codes "</details>\n"

abbrev pub tables : SourcePageData → List ℕ
tables page = function_table page.functions ++ test_table page.tests

-- links to the first and the last line that was never run
abbrev pub missed_links : (first last : Option ℕ) → List ℕ
missed_links (Some first) (Some last) = codes "<p>Not run: first line " ++ line_link first ++ codes ", last line " ++ line_link last ++ codes "</p>\n"
missed_links (Some first) None = []
missed_links None last = []

-- the table of the lines of this source
abbrev pub line_table : List RowData → (source : List ℕ) → List ℕ
line_table rows source = LINES.now ++ row_zero rows ++ rows_below 0 rows (lines_of source) ++ TABLE_END.now

-- what stands above the table of lines
abbrev pub source_front : SourcePageData → List ℕ
source_front page =
    head page.path ++ BACK.now ++ heading page.path ++ cards page.totals ++ tables page
    ++ missed_links (first_missed page.rows) (last_missed None page.rows)

abbrev pub source_page : SourcePageData → List ℕ
source_page page = source_front page ++ line_table page.rows page.source ++ FOOT.now

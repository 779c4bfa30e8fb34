-- The table of files with their totals, like that of lcov(1), --list.
use Rattle.std.specs.Prelude.{ℕ, ◌+◌, ◌-◌, ◌*◌, ◌/◌, ◌%◌, ◌==◌, if◌then◌else◌, List, ◌++◌, length, replicate, codes, decimal, flat_map}
use Rattle.covtable.specs.declared.totals.Totals.{Totals}
use Rattle.covtable.specs.Files.{FileTotalsData}
use Rattle.covreport.specs.Summary.{tenths_of}
use Rattle.covlist.specs.Shown.{shown_name}

-- spaces (32) in front of a text, so that it ends at this width
abbrev pub right_aligned : (width : ℕ) → List ℕ → List ℕ
right_aligned width text = replicate (width - length text) 32 ++ text

-- tenths of a percent, as a percentage with one decimal place
abbrev pub percentage : (tenths : ℕ) → List ℕ
percentage tenths = decimal (tenths / 10) ++ codes "." ++ decimal (tenths % 10) ++ codes "%"

-- the rate of points hit, or `-` if there are no points
abbrev pub rate : (hit found : ℕ) → List ℕ
rate hit found = if found == 0 then codes "-" else percentage (tenths_of hit found)

-- how many points are hit, of how many that are found
abbrev pub numbers : (hit found : ℕ) → List ℕ
numbers hit found = decimal hit ++ codes "/" ++ decimal found

-- the width of these in a column: twice the digits of `most`, the points found in all files, and one more
abbrev pub numbers_width : (most : ℕ) → ℕ
numbers_width most = 2 * length (decimal most) + 1

-- the rate in 6 places, a space, and the numbers
abbrev pub cell : (most hit found : ℕ) → List ℕ
cell most hit found = right_aligned 6 (rate hit found) ++ codes " " ++ right_aligned (numbers_width most) (numbers hit found)

-- the heading of a column, as wide as its cells
abbrev pub heading : (most : ℕ) → List ℕ → List ℕ
heading most label = right_aligned (7 + numbers_width most) label

-- a line of three columns and a name
abbrev pub line_of : (lines functions branches name : List ℕ) → List ℕ
line_of lines functions branches name =
    lines ++ codes "  " ++ functions ++ codes "  " ++ branches ++ codes "  " ++ name ++ codes "\n"

abbrev pub headings : (all : Totals) → List ℕ
headings all = line_of (heading all.lf (codes "Lines")) (heading all.ff (codes "Functions")) (heading all.bf (codes "Branches")) (codes "File")

-- the row of a name with its own totals, in columns for the totals of all
abbrev pub row : (all : Totals) → List ℕ → (own : Totals) → List ℕ
row all name own = line_of (cell all.lf own.lh own.lf) (cell all.ff own.fh own.ff) (cell all.bf own.bh own.bf) name

abbrev pub file_row : (all : Totals) → FileTotalsData → List ℕ
file_row all file = row all (shown_name file.path) file.totals

-- the headings, a row for each file, and a row with the totals of all of them
abbrev pub list_table_of : List FileTotalsData → (all : Totals) → List ℕ
list_table_of files all = headings all ++ flat_map (file_row all) files ++ row all (codes "Total") all

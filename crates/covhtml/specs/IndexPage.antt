-- The index of source files by directory.
use Rattle.std.specs.Prelude.{ℕ, Bool, ◌==◌, ◌&&◌, nat_lt, if◌then◌else◌, Option, None, Some, List, [], ◌∷◌, ◌++◌, length, codes, flat_map}
use Rattle.covtable.specs.declared.totals.Totals.{Totals}
use Rattle.covhtml.specs.Frame.{head, heading}
use Rattle.covhtml.specs.Rates.{cards, rate, totals_cells}
use Rattle.covhtml.specs.Shown.{shown}
use Rattle.covhtml.specs.declared.markup.TheConstants.{DIRECTORY, FILES, FOOT, TABLE_END}

-- a source file: the name of its page, its path and its totals
pub record IndexedFileData : Type 0 where
  pub page : List ℕ
  pub path : List ℕ
  pub totals : Totals

-- a directory: its path, the totals of its files, and its files
pub record DirectoryData : Type 0 where
  pub path : List ℕ
  pub totals : Totals
  pub files : List IndexedFileData

-- what the page shows: a title, a date if one is given, the totals of all files, and their directories
pub record IndexPageData : Type 0 where
  pub title : List ℕ
  pub date : Option (List ℕ)
  pub totals : Totals
  pub directories : List DirectoryData

-- a name begins after this byte, which comes right before `after`: the byte is a slash, and something follows it
abbrev pub begins_name : ℕ → (after : List ℕ) → Bool
begins_name b after = b == 47 && nat_lt 0 (length after)

-- what follows the last slash of a path that isn't its last byte; `name` if there is no such slash
abbrev pub name_in : (name path : List ℕ) → List ℕ
name_in name [] = name
name_in name (b ∷ path) = if begins_name b path then name_in path path else name_in name path

-- a file's name without its directories
abbrev pub name_of : (path : List ℕ) → List ℕ
name_of path = name_in path path

-- a link to the file's page, and the file's totals
abbrev pub file_row : IndexedFileData → List ℕ
file_row file =
    codes "<tr><th scope=\"row\"><a href=\"" ++ shown file.page ++ codes "\">" ++ shown (name_of file.path) ++ codes "</a>" ++ totals_cells file.totals

-- the path of a directory, and its rate of lines hit
abbrev pub directory_start : DirectoryData → List ℕ
directory_start directory =
    DIRECTORY.now ++ shown directory.path ++ codes " " ++ rate directory.totals.lh directory.totals.lf ++ FILES.now

-- the totals of a directory
abbrev pub total_row : Totals → List ℕ
total_row totals = codes "<tr class=\"t\"><th scope=\"row\">Total" ++ totals_cells totals

abbrev pub directory_rows : DirectoryData → List ℕ
directory_rows directory = flat_map file_row directory.files ++ total_row directory.totals

-- a directory with its files and its totals, which can be opened and closed
abbrev pub directory_part : DirectoryData → List ℕ
directory_part directory = directory_start directory ++ directory_rows directory ++ TABLE_END.now ++ codes "</details>\n"

-- the date, if one is given
abbrev pub date_line : Option (List ℕ) → List ℕ
date_line None = []
date_line (Some date) = codes "<p>" ++ shown date ++ codes "</p>\n"

abbrev pub index_page : IndexPageData → List ℕ
index_page page =
    head page.title ++ heading page.title ++ date_line page.date ++ cards page.totals
    ++ flat_map directory_part page.directories ++ FOOT.now

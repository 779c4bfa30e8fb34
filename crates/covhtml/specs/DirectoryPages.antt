-- Pages of directories. Where there are many source files, the index lists directories, and each directory has a page with its files.
use Rattle.std.specs.Prelude.{ℕ, Option, List, [], ◌∷◌, ◌++◌, codes, flat_map}
use Rattle.covtable.specs.declared.totals.Totals.{Totals}
use Rattle.covhtml.specs.Frame.{head, heading}
use Rattle.covhtml.specs.IndexPage.{DirectoryData, date_line, file_row}
use Rattle.covhtml.specs.PageName.{page_name}
use Rattle.covhtml.specs.Rates.{cards, totals_cells}
use Rattle.covhtml.specs.Shown.{shown}
use Rattle.covhtml.specs.declared.markup.TheConstants.{BACK, DIRECTORIES, FILE_TABLE, FOOT, TABLE_END}

-- a directory that has a page: the page's name, the directory's path, and the totals of its files
pub record IndexedDirectoryData : Type 0 where
  pub page : List ℕ
  pub path : List ℕ
  pub totals : Totals

-- what an index of directories shows: a title, a date if one is given, the totals of all files, and the directories
pub record DirectoryIndexData : Type 0 where
  pub title : List ℕ
  pub date : Option (List ℕ)
  pub totals : Totals
  pub directories : List IndexedDirectoryData

-- the page of a directory is called as that of a file with this path and a line feed, which no path of a source file has
abbrev pub directory_page_name : (number : ℕ) (path : List ℕ) → List ℕ
directory_page_name number path = page_name number (path ++ 10 ∷ [])

-- a link to the directory's page, and the directory's totals
abbrev pub directory_row : IndexedDirectoryData → List ℕ
directory_row d = codes "<tr><th scope=\"row\"><a href=\"" ++ shown d.page ++ codes "\">" ++ shown d.path ++ codes "</a>" ++ totals_cells d.totals

abbrev pub directory_table : List IndexedDirectoryData → List ℕ
directory_table directories = DIRECTORIES.now ++ flat_map directory_row directories ++ TABLE_END.now

abbrev pub directory_index : DirectoryIndexData → List ℕ
directory_index page =
    head page.title ++ heading page.title ++ date_line page.date ++ cards page.totals ++ directory_table page.directories ++ FOOT.now

-- the files of a directory
abbrev pub file_table : DirectoryData → List ℕ
file_table directory = FILE_TABLE.now ++ flat_map file_row directory.files ++ TABLE_END.now

abbrev pub directory_page : DirectoryData → List ℕ
directory_page directory =
    head directory.path ++ BACK.now ++ heading directory.path ++ cards directory.totals ++ file_table directory ++ FOOT.now

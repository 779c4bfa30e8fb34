-- The source files of the index, by their directories.
use Rattle.std.specs.Prelude.{◌≡◌, ℕ, suc, ◌-◌, false, if◌then◌else◌, List, [], ◌∷◌, length, take, map, filter, codes}
use Rattle.std.specs.Cmp.Lexicographic.{slice_cmp}
use Rattle.std.specs.List.{AllByRecursion}
use Rattle.std.specs.Ordering.{is_gt, nat_cmp}
use Rattle.std.specs.Str.{bytes_eq}
use Rattle.covhtml.specs.IndexPage.{DirectoryData, IndexedFileData, name_of}
use Rattle.covtable.specs.Ascending.{ascending}
use Rattle.covtable.specs.TotalsExchanged.{no_totals, together}
use Rattle.covtable.specs.declared.totals.Totals.{Totals}

-- the bytes before a slash: `/` if there are none, and `.` if there isn't even a slash
abbrev pub before_slash : (front : List ℕ) → List ℕ
before_slash [] = codes "."
before_slash (slash ∷ []) = codes "/"
before_slash (b ∷ c ∷ front) = take (length (c ∷ front)) (b ∷ c ∷ front)

-- the directory of a path: what comes before the slash before its name
abbrev pub directory_of : (path : List ℕ) → List ℕ
directory_of path = before_slash (take (length path - length (name_of path)) path)

-- what files have together
abbrev pub totals_together : List IndexedFileData → Totals
totals_together [] = no_totals
totals_together (file ∷ files) = together file.totals (totals_together files)

abbrev pub files_of : List IndexedFileData → (directory : List ℕ) → List IndexedFileData
files_of files directory = filter (λ f. bytes_eq (directory_of f.path) directory) files

-- a directory with its files, in their order
abbrev pub directory_with : List IndexedFileData → (directory : List ℕ) → DirectoryData
directory_with files directory =
    record { path = directory; totals = totals_together (files_of files directory); files = files_of files directory }

-- the paths of the directories of these files, each once, ascending
abbrev pub directory_paths : List IndexedFileData → List (List ℕ)
directory_paths files = ascending (slice_cmp nat_cmp) (map (λ f. directory_of f.path) files)

-- the directories of these files
abbrev pub directories_of : List IndexedFileData → List DirectoryData
directories_of files = map (directory_with files) (directory_paths files)

-- ---- private steps

-- each file's directory is at most that of each file after it
abbrev pub Rises : List IndexedFileData → Type 0
Rises [] = Unit {0}
Rises (file ∷ files) =
    AllByRecursion (λ after. is_gt (slice_cmp nat_cmp (directory_of file.path) (directory_of after.path)) ≡ false) files × Rises files

-- of each directory, both lists have the same files in the same order
abbrev pub HaveSameFiles : List IndexedFileData → List IndexedFileData → Type 0
HaveSameFiles files others = (directory : List ℕ) → files_of files directory ≡ files_of others directory

-- the directory of the first file
abbrev pub first_path : List IndexedFileData → List ℕ
first_path [] = []
first_path (file ∷ files) = directory_of file.path

-- these files, as the directory of this path
abbrev pub run : (directory : List ℕ) → List IndexedFileData → DirectoryData
run directory files = record { path = directory; totals = totals_together files; files = files }

-- how many files come before the first one that isn't in this directory
abbrev pub count_in : (directory : List ℕ) → List IndexedFileData → ℕ
count_in directory [] = 0
count_in directory (file ∷ files) = if bytes_eq (directory_of file.path) directory then suc (count_in directory files) else 0

-- puts a file into the first directory if that is its own, and otherwise into a directory before it
abbrev pub onto_directories : IndexedFileData → List DirectoryData → List DirectoryData
onto_directories file [] = directory_with (file ∷ []) (directory_of file.path) ∷ []
onto_directories file (d ∷ directories) =
    if bytes_eq (directory_of file.path) d.path
    then record d { totals = together file.totals d.totals; files = file ∷ d.files } ∷ directories
    else directory_with (file ∷ []) (directory_of file.path) ∷ d ∷ directories

-- a directory for each run of files in the same one
abbrev pub runs_of : List IndexedFileData → List DirectoryData
runs_of [] = []
runs_of (file ∷ files) = onto_directories file (runs_of files)

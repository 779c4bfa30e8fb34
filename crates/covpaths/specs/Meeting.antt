-- What stands under a test and a file after paths got their new names by rules.
use Rattle.std.specs.Prelude.{◌≡◌, ◌⊎◌, ◌↔◌, Bool, ◌&&◌, ℕ, List, None, map, filter}
use Rattle.std.specs.List.{AllByRecursion}
use Rattle.std.specs.Str.{bytes_eq}
use Rattle.covdata.specs.Row.{ItemData, Row}
use Rattle.covpaths.specs.Names.{NamesData, named_row}
use Rattle.covpaths.specs.Paths.{RuleData, mapped_path}

abbrev pub is_of : (test file : List ℕ) → Row → Bool
is_of test file row = bytes_eq row.file file && bytes_eq row.test test

-- the items of a test and a file, in the order of the rows
abbrev pub items_of : (test file : List ℕ) → List Row → List ItemData
items_of test file rows = map (λ row. row.item) (filter (is_of test file) rows)

-- names by rules, where each count keeps its test
abbrev pub paths_alone : List RuleData → NamesData
paths_alone rules = record { rules = rules; test = None }

abbrev pub with_new_paths : List RuleData → List Row → List Row
with_new_paths rules rows = map (named_row (paths_alone rules)) rows

-- of the rows' files, these two and no others get this path
abbrev pub Meet : List RuleData → List Row → (one other path : List ℕ) → Type 0
Meet rules rows one other path = AllByRecursion (λ row. (mapped_path rules row.file ≡ path) ↔ ((row.file ≡ one) ⊎ (row.file ≡ other))) rows

-- no other file of the rows gets the path that this file gets
abbrev pub IsApart : List RuleData → List Row → (file : List ℕ) → Type 0
IsApart rules rows file = AllByRecursion (λ row. mapped_path rules row.file ≡ mapped_path rules file → row.file ≡ file) rows

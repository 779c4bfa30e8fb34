-- The table without the rows of a test.
use Rattle.std.specs.Prelude.{ℕ, Bool, not, List, length, map, filter}
use Rattle.std.specs.Str.{bytes_eq}
use Rattle.covdata.specs.Row.{Row}
use Rattle.covtable.specs.Table.{Table, all_rows}
use Rattle.covtable.specs.Value.{keys_of}

abbrev pub is_of_test : List ℕ → Row → Bool
is_of_test test row = bytes_eq row.test test

-- the table without the test's rows: its members stay, even those with no rows left
abbrev pub without_test : List ℕ → Table → Table
without_test test table = map (filter (λ row. not (is_of_test test row))) table

-- in how many sections the test is: the number of different files that have a row of it
abbrev pub sections_of_test : List ℕ → Table → ℕ
sections_of_test test table = length (keys_of (filter (is_of_test test) (all_rows table)))

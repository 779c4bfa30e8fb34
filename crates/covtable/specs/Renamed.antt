-- The table after a test is renamed.
use Rattle.std.specs.Prelude.{ℕ, List, map, filter, if◌then◌else◌}
use Rattle.std.specs.Str.{bytes_eq}
use Rattle.covdata.specs.Row.{Row}
use Rattle.covtable.specs.Table.{Table}
use Rattle.covtable.specs.Without.{is_of_test}

-- the row under the new name if it is of the old test, else the row as it is
abbrev pub renamed_row : List ℕ → List ℕ → Row → Row
renamed_row old new row = record { test = if bytes_eq row.test old then new else row.test; file = row.file; item = row.item }

-- the table after the rename: each row of the old test gets the new name. Each row stays in its member, at its place
abbrev pub renamed : List ℕ → List ℕ → Table → Table
renamed old new table = map (map (renamed_row old new)) table

-- the rows of the old test, under the new name
abbrev pub moved_rows : List ℕ → List ℕ → List Row → List Row
moved_rows old new rows = map (renamed_row old new) (filter (is_of_test old) rows)

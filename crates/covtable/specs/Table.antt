-- The table of counts: the rows of each accepted submission, in order of acceptance.
use Rattle.std.specs.Prelude.{List, Option}
use Rattle.std.specs.List.{flat_map}
use Rattle.covdata.specs.Row.{Row, SubmissionData, rows_of}
use Rattle.covtable.specs.Clash.{ClashData, clash_of}

abbrev pub Table : Type 0
Table = List (List Row)

abbrev pub all_rows : Table → List Row
all_rows table = flat_map (λ rows. rows) table

-- the clash of a submission with a table
abbrev pub clash_at : Table → SubmissionData → Option ClashData
clash_at table submission = clash_of (all_rows table) (rows_of submission)

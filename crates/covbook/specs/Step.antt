-- One step of the plain table of counts, and whole runs of steps.
use Rattle.std.specs.Prelude.{◌≡◌, ℕ, ◌+◌, Bool, true, false, List, [], ◌∷◌, ◌++◌, length, Option, Some, None, map}
use Rattle.std.specs.List.{list_any}
use Rattle.covdata.specs.Row.{SubmissionData, rows_of, items_in}
use Rattle.covtable.specs.declared.totals.Totals.{Totals}
use Rattle.covtable.specs.Clash.{ClashData}
use Rattle.covtable.specs.Content.{content_at}
use Rattle.covtable.specs.Renamed.{renamed}
use Rattle.covtable.specs.Table.{Table, all_rows, clash_at}
use Rattle.covtable.specs.Totals.{totals_of}
use Rattle.covtable.specs.Without.{is_of_test, without_test, sections_of_test}
use Rattle.covreport.specs.Choice.{AllFiles, Extracted, Removed}
use Rattle.covreport.specs.Report.{report_text}
use Rattle.covreport.specs.Summary.{summary_of}
use Rattle.covbook.specs.Op.{OpData, SubmitOp, DropTestOp, RenameOp, ReportOp, ExtractOp, RemoveOp, SummaryOp, AnswerData, AcceptedAnswer, ClashAnswer, DroppedAnswer, RenamedAnswer, NoSuchTestAnswer, TextAnswer, EntryData, ReceiptData}

-- nothing of a submission that clashes is accepted; any other submission is accepted and gets the next number
abbrev pub answer_to_submit : Table → SubmissionData → Option ClashData → AnswerData
answer_to_submit table submission (Some clash) = ClashAnswer clash
answer_to_submit table submission None = AcceptedAnswer (length table + 1) (items_in submission.sects) submission.odd

abbrev pub table_after_submit : Table → SubmissionData → Option ClashData → Table
table_after_submit table submission (Some clash) = table
table_after_submit table submission None = table ++ rows_of submission ∷ []

-- some row is of the test
abbrev pub has_test : Table → List ℕ → Bool
has_test table test = list_any (is_of_test test) (all_rows table)

-- a test without a row isn't dropped: there is no such test. Otherwise the test's rows are removed from the members of the
-- table. All members stay, even those without a row
abbrev pub answer_to_drop : Table → List ℕ → Bool → AnswerData
answer_to_drop table test true = DroppedAnswer (sections_of_test test table)
answer_to_drop table test false = NoSuchTestAnswer

abbrev pub table_after_drop : Table → List ℕ → Bool → Table
table_after_drop table test true = without_test test table
table_after_drop table test false = table

-- a test without a row isn't renamed: there is no such test. Otherwise the test's rows get the new name, even if other rows
-- have this name already
abbrev pub answer_to_rename : Table → List ℕ → Bool → AnswerData
answer_to_rename table old true = RenamedAnswer (sections_of_test old table)
answer_to_rename table old false = NoSuchTestAnswer

abbrev pub table_after_rename : Table → List ℕ → List ℕ → Bool → Table
table_after_rename table old new true = renamed old new table
table_after_rename table old new false = table

-- the answer to an operation at a table
abbrev pub answer_of : Table → OpData → AnswerData
answer_of table (SubmitOp submission) = answer_to_submit table submission (clash_at table submission)
answer_of table (DropTestOp test) = answer_to_drop table test (has_test table test)
answer_of table (RenameOp old new) = answer_to_rename table old (has_test table old)
answer_of table ReportOp = TextAnswer (report_text AllFiles (content_at table))
answer_of table (ExtractOp patterns) = TextAnswer (report_text (Extracted patterns) (content_at table))
answer_of table (RemoveOp patterns) = TextAnswer (report_text (Removed patterns) (content_at table))
answer_of table SummaryOp = TextAnswer (summary_of (totals_of (content_at table)))

-- the table after an operation. An operation that asks for a text doesn't change it
abbrev pub table_after : Table → OpData → Table
table_after table (SubmitOp submission) = table_after_submit table submission (clash_at table submission)
table_after table (DropTestOp test) = table_after_drop table test (has_test table test)
table_after table (RenameOp old new) = table_after_rename table old new (has_test table old)
table_after table ReportOp = table
table_after table (ExtractOp patterns) = table
table_after table (RemoveOp patterns) = table
table_after table SummaryOp = table

-- the totals of a table
abbrev pub totals_at : Table → Totals
totals_at table = totals_of (content_at table)

-- the answers to operations, one after another
abbrev pub answers_from : Table → List OpData → List AnswerData
answers_from table [] = []
answers_from table (op ∷ ops) = answer_of table op ∷ answers_from (table_after table op) ops

-- the totals after each of these operations
abbrev pub totals_from : Table → List OpData → List Totals
totals_from table [] = []
totals_from table (op ∷ ops) = totals_at (table_after table op) ∷ totals_from (table_after table op) ops

-- the table after all of these operations
abbrev pub table_from : Table → List OpData → Table
table_from table [] = table
table_from table (op ∷ ops) = table_from (table_after table op) ops

-- a run begins with the empty table. These are its answers, the totals after each of its operations, and its last table
abbrev pub answers_to : List OpData → List AnswerData
answers_to ops = answers_from [] ops

abbrev pub totals_to : List OpData → List Totals
totals_to ops = totals_from [] ops

abbrev pub table_of : List OpData → Table
table_of ops = table_from [] ops

-- the operations of a history
abbrev pub ops_in : List EntryData → List OpData
ops_in entries = map (λ e. e.op) entries

abbrev pub answers_in : List EntryData → List AnswerData
answers_in entries = map (λ e. e.answer) entries

abbrev pub totals_in : List EntryData → List Totals
totals_in entries = map (λ e. e.after) entries

-- a history is legal: the answers and the totals of its entries are those of the run over its operations
pub record IsLegal (entries : List EntryData) : Type 0 where
  pub answers : answers_in entries ≡ answers_to (ops_in entries)
  pub totals : totals_in entries ≡ totals_to (ops_in entries)

-- the totals if nothing is found and nothing is hit: all are zero
abbrev pub no_totals : Totals
no_totals = record { lf = 0; lh = 0; ff = 0; fh = 0; bf = 0; bh = 0 }

-- the totals after the last entry, and zeros if there are no entries
abbrev pub last_totals : List EntryData → Totals
last_totals [] = no_totals
last_totals (e ∷ []) = e.after
last_totals (e ∷ next ∷ entries) = last_totals (next ∷ entries)

-- the entry that an operation of a job appends to a history
abbrev pub next_entry : List EntryData → ℕ → OpData → EntryData
next_entry history job op = record { job = job; op = op; answer = answer_of (table_of (ops_in history)) op; after = totals_at (table_after (table_of (ops_in history)) op) }

-- the entry can come next in the history: it is the one that `next_entry` gives for the entry's own job and operation
abbrev pub ComesNext : List EntryData → EntryData → Type 0
ComesNext history entry = entry ≡ next_entry history entry.job entry.op

-- what a job gets back for the entry at a place
abbrev pub receipt_of : ℕ → EntryData → ReceiptData
receipt_of place entry = record { place = place; op = entry.op; answer = entry.answer }

-- the most entries in one history
abbrev pub max_entries : ℕ
max_entries = 1048576

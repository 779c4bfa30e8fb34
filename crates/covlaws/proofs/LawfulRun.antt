-- The rows of the table after lawful operations are lawful, if each new name is a good test name.
use Rattle.std.proofs.Common.{◌≡◌, ℕ, Bool, true, false, not, cond, Option, Some, None, List, [], ◌∷◌, ◌++◌, map, filter, refl, sym, ap, ◌∙◌, subst}
use Rattle.std.specs.List.{AllByRecursion, flat_map}
use Rattle.std.specs.Str.{bytes_eq}
use Rattle.std.proofs.lemmas.List.Elements.{filter-append, recursion_from_All}
use Rattle.covtable.specs.Clash.{ClashData}
use Rattle.covdata.specs.Lawful.{AllFit, IsGoodName, IsGoodTest, IsLawful, IsLawfulItem, IsLawfulSect}
use Rattle.covbook.specs.Op.{OpData, SubmitOp, DropTestOp, RenameOp, ReportOp, ExtractOp, RemoveOp, SummaryOp, AreLawfulOps, IsLawfulOp, HasGoodName, HaveGoodNames}
use Rattle.covlaws.specs.Printable.{IsLawfulRow}
use Rattle.covdata.specs.Row.{ItemData, Row, SectData, SubmissionData, rows_of, rows_of_sect}
use Rattle.covbook.specs.Step.{has_test, table_after, table_after_drop, table_after_rename, table_after_submit, table_from, table_of}
use Rattle.covtable.specs.Renamed.{renamed_row}
use Rattle.covtable.specs.Table.{Table, all_rows, clash_at}
use Rattle.covtable.specs.Without.{is_of_test, without_test}
use Rattle.covtable.proofs.WithoutContent.{All-picked}
use Rattle.covtable.proofs.Members.{All-joined}
use Rattle.covtable.proofs.Clashes.{rows_accepted}
use Rattle.covtable.proofs.RenamedTables.{rows_renamed}

-- ---- the rows of a lawful submission

rows_of_items : (test file : List ℕ) → IsGoodTest test → IsGoodName file → (items : List ItemData) → AllByRecursion IsLawfulItem items → AllFit items
    → AllByRecursion IsLawfulRow (map (λ i. record { test = test; file = file; item = i }) items)
rows_of_items test file good_test good_file [] lawful fit = tt
rows_of_items test file good_test good_file (item ∷ items) lawful fit = (
  record { test = good_test; file = good_file; item = lawful.0; fits = fit.0 },
  rows_of_items test file good_test good_file items lawful.1 fit.1,
)

rows_of_sects : (sects : List SectData) → AllByRecursion IsLawfulSect sects → AllByRecursion (λ sect. AllFit sect.items) sects → AllByRecursion IsLawfulRow (flat_map rows_of_sect sects)
rows_of_sects [] texts fit = tt
rows_of_sects (s ∷ sects) texts fit =
    All-joined IsLawfulRow (rows_of_sect s) (flat_map rows_of_sect sects)
    (rows_of_items s.test s.file texts.0.test texts.0.file s.items texts.0.items fit.0)
    (rows_of_sects sects texts.1 fit.1)

pub lawful_rows : (s : SubmissionData) → IsLawful s → AllByRecursion IsLawfulRow (rows_of s)
lawful_rows s lawful = rows_of_sects s.sects (recursion_from_All IsLawfulSect s.sects lawful.texts) lawful.fit

-- ---- one operation

abbrev IsLawfulTable : Table → Type 0
IsLawfulTable table = AllByRecursion IsLawfulRow (all_rows table)

rows_left : (test : List ℕ) (table : Table) → all_rows (without_test test table) ≡ filter (λ row. not (is_of_test test row)) (all_rows table)
rows_left test [] = refl
rows_left test (rows ∷ table) =
    ap (λ (more : List Row). filter (λ row. not (is_of_test test row)) rows ++ more) (rows_left test table)
    ∙ sym (filter-append (λ row. not (is_of_test test row)) rows (all_rows table))

after_submit : (table : Table) (s : SubmissionData) (clash : Option ClashData) → IsLawfulTable table → IsLawful s → IsLawfulTable (table_after_submit table s clash)
after_submit table s (Some clash) held lawful = held
after_submit table s None held lawful =
    subst (AllByRecursion IsLawfulRow) (sym (rows_accepted table (rows_of s))) (All-joined IsLawfulRow (all_rows table) (rows_of s) held (lawful_rows s lawful))

after_drop : (table : Table) (test : List ℕ) (there : Bool) → IsLawfulTable table → IsLawfulTable (table_after_drop table test there)
after_drop table test true held =
    subst (AllByRecursion IsLawfulRow) (sym (rows_left test table)) (All-picked IsLawfulRow (λ row. not (is_of_test test row)) (all_rows table) held)
after_drop table test false held = held

good_or_own : (new : List ℕ) (row : Row) (b : Bool) → IsGoodTest new → IsLawfulRow row → IsGoodTest (cond b new row.test)
good_or_own new row true good lawful = good
good_or_own new row false good lawful = lawful.test

rows_moved : (old new : List ℕ) → IsGoodTest new → (rows : List Row) → AllByRecursion IsLawfulRow rows → AllByRecursion IsLawfulRow (map (renamed_row old new) rows)
rows_moved old new good [] lawful = tt
rows_moved old new good (row ∷ rows) lawful = (
  record { test = good_or_own new row (bytes_eq row.test old) good lawful.0; file = lawful.0.file; item = lawful.0.item; fits = lawful.0.fits },
  rows_moved old new good rows lawful.1,
)

after_rename : (table : Table) (old new : List ℕ) (there : Bool) → IsLawfulTable table → IsGoodTest new → IsLawfulTable (table_after_rename table old new there)
after_rename table old new true held good = subst (AllByRecursion IsLawfulRow) (sym (rows_renamed old new table)) (rows_moved old new good (all_rows table) held)
after_rename table old new false held good = held

after_op : (table : Table) (op : OpData) → IsLawfulTable table → IsLawfulOp op → HasGoodName op → IsLawfulTable (table_after table op)
after_op table (SubmitOp s) held lawful good = after_submit table s (clash_at table s) held lawful
after_op table (DropTestOp test) held lawful good = after_drop table test (has_test table test) held
after_op table (RenameOp old new) held lawful good = after_rename table old new (has_test table old) held good
after_op table ReportOp held lawful good = held
after_op table (ExtractOp patterns) held lawful good = held
after_op table (RemoveOp patterns) held lawful good = held
after_op table SummaryOp held lawful good = held

-- ---- a run

after_ops : (table : Table) (ops : List OpData) → IsLawfulTable table → AreLawfulOps ops → HaveGoodNames ops → IsLawfulTable (table_from table ops)
after_ops table [] held lawful good = held
after_ops table (op ∷ ops) held lawful good = after_ops (table_after table op) ops (after_op table op held lawful.0 good.0) lawful.1 good.1

pub lawful_run : (ops : List OpData) → AreLawfulOps ops → HaveGoodNames ops → AllByRecursion IsLawfulRow (all_rows (table_of ops))
lawful_run ops lawful good = after_ops [] ops tt lawful good

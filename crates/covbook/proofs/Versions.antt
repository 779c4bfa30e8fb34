-- Tables of runs have no two different checksums of one line of a file.
use Rattle.std.proofs.Common.{◌≡◌, List, [], ◌∷◌, ◌++◌, refl}
use Rattle.std.specs.Prelude.{ℕ, Bool, true, false, Option, Some, None}
use Rattle.covdata.specs.Row.{SubmissionData, rows_of}
use Rattle.covtable.specs.Clash.{ClashData, Agree, checksums_in}
use Rattle.covtable.specs.Renamed.{renamed}
use Rattle.covtable.specs.Table.{Table, all_rows, clash_at}
use Rattle.covtable.specs.Without.{without_test}
use Rattle.covbook.specs.Op.{OpData, SubmitOp, DropTestOp, RenameOp}
use Rattle.covbook.specs.Step.{has_test, table_after, table_after_drop, table_after_rename, table_after_submit, table_from}

-- what covstore's law says of a submission that doesn't clash
abbrev pub AcceptedAgree : Type 0
AcceptedAgree = (table : Table) (s : SubmissionData) → clash_at table s ≡ None → Agree (checksums_in (all_rows table)) → Agree (checksums_in (all_rows (table ++ rows_of s ∷ [])))

agree_submitted : AcceptedAgree → (table : Table) (s : SubmissionData) (clash : Option ClashData) → clash_at table s ≡ clash → Agree (checksums_in (all_rows table)) → Agree (checksums_in (all_rows (table_after_submit table s clash)))
agree_submitted law table s (Some clash) is agree = agree
agree_submitted law table s None is agree = law table s is agree

-- and of a test that is dropped
abbrev pub DroppedAgree : Type 0
DroppedAgree = (table : Table) (test : List ℕ) → Agree (checksums_in (all_rows table)) → Agree (checksums_in (all_rows (without_test test table)))

agree_dropped : DroppedAgree → (table : Table) (test : List ℕ) (there : Bool) → Agree (checksums_in (all_rows table)) → Agree (checksums_in (all_rows (table_after_drop table test there)))
agree_dropped law table test true agree = law table test agree
agree_dropped law table test false agree = agree

-- and of one that is renamed
abbrev pub RenamedAgree : Type 0
RenamedAgree = (old new : List ℕ) (table : Table) → Agree (checksums_in (all_rows table)) → Agree (checksums_in (all_rows (renamed old new table)))

agree_renamed : RenamedAgree → (table : Table) (old new : List ℕ) (there : Bool) → Agree (checksums_in (all_rows table)) → Agree (checksums_in (all_rows (table_after_rename table old new there)))
agree_renamed law table old new true agree = law old new table agree
agree_renamed law table old new false agree = agree

module _ (law : AcceptedAgree) (dropped : DroppedAgree) (renames : RenamedAgree) where
  agree_after : (table : Table) (op : OpData) → Agree (checksums_in (all_rows table)) → Agree (checksums_in (all_rows (table_after table op)))
  agree_after table (SubmitOp s) agree = agree_submitted law table s (clash_at table s) refl agree
  agree_after table (DropTestOp test) agree = agree_dropped dropped table test (has_test table test) agree
  agree_after table (RenameOp old new) agree = agree_renamed renames table old new (has_test table old) agree
  agree_after table text agree = agree

  pub agree_from : (table : Table) (ops : List OpData) → Agree (checksums_in (all_rows table)) → Agree (checksums_in (all_rows (table_from table ops)))
  agree_from table [] agree = agree
  agree_from table (op ∷ ops) agree = agree_from (table_after table op) ops (agree_after table op agree)

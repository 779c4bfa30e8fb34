-- A step in two halves: what the first half leaves for the second half, and when the second half may be taken.
use Rattle.std.specs.Prelude.{◌≡◌, ℕ, ◌<◌, List, [], ◌∷◌, ◌++◌, length}
use Rattle.covdata.specs.Row.{SubmissionData, rows_of}
use Rattle.covtable.specs.declared.totals.Totals.{Totals}
use Rattle.covtable.specs.Renamed.{renamed}
use Rattle.covtable.specs.Table.{Table}
use Rattle.covtable.specs.Without.{without_test}
use Rattle.covbook.specs.Held.{BookData}
use Rattle.covbook.specs.Op.{OpData, EntryData}
use Rattle.covbook.specs.Step.{table_after, table_of, totals_at, ops_in, ComesNext, max_entries}

-- what a step does to the store: it does nothing, holds the submission of a plan, drops a test, or renames a test. `P` and `R` are the
-- store's plans and renamings
pub data ChangeData (P R : Type 0) : Type 0 where
  NoChange : ChangeData P R
  HoldChange : (plan : P) → ChangeData P R
  DropChange : (test : List ℕ) → ChangeData P R
  RenameChange : (renaming : R) → ChangeData P R

-- a step that was made ready: the place of its entry, the entry, what the step does to the store, and the totals after the step
pub record ReadyData (P R : Type 0) : Type 0 where
  pub place : ℕ
  pub entry : EntryData
  pub change : ChangeData P R
  pub after : Totals

-- the history takes one more entry, and there is room for it
pub record HasRoom {T : Type 0} (book : BookData T) : Type 0 where
  pub few : length book.entries < max_entries
  pub room : length book.entries < book.room

-- the entry comes next in the book's history
abbrev pub IsNextOf : {T : Type 0} → BookData T → EntryData → Type 0
IsNextOf book entry = ComesNext book.entries entry

-- the totals are those after the operation
abbrev pub IsAfter : {T : Type 0} → BookData T → OpData → Totals → Type 0
IsAfter book op totals = totals ≡ totals_at (table_after (table_of (ops_in book.entries)) op)

-- `plans` says whether a plan is one of a store for a submission, and `renames` whether a renaming is one of a store from an old name
-- to a new name
module _ {T P R : Type 0} (plans : T → SubmissionData → P → Type 0) (renames : T → List ℕ → List ℕ → R → Type 0) where
  -- the change does to the store what the operation does to the table. For `NoChange`, the operation leaves the table as it is.
  -- For `HoldChange`, the plan is one of this store for a submission, and the operation adds the rows of this submission to the
  -- table. For `DropChange`, the operation takes the test's rows out of the table. For `RenameChange`, the renaming is one of
  -- this store from an old name to a new name, and the operation gives the rows of the old name the new name
  abbrev pub IsPlanned : T → Table → OpData → ChangeData P R → Type 0
  IsPlanned store table op NoChange = table_after table op ≡ table
  IsPlanned store table op (HoldChange plan) = (s : SubmissionData) × plans store s plan × (table_after table op ≡ table ++ rows_of s ∷ [])
  IsPlanned store table op (DropChange test) = table_after table op ≡ without_test test table
  IsPlanned store table op (RenameChange renaming) = (old new : List ℕ) × renames store old new renaming × (table_after table op ≡ renamed old new table)

  -- the book is still as `ready` left it when it made this step ready. `ready` ensures this, and `finish` requires it
  pub record IsReadyOf (book : BookData T) (ready : ReadyData P R) : Type 0 where
    pub room : HasRoom book
    pub next : IsNextOf book ready.entry
    pub place : ready.place ≡ length book.entries
    pub planned : IsPlanned book.held (table_of (ops_in book.entries)) ready.entry.op ready.change
    pub after : IsAfter book ready.entry.op ready.after

  -- the book is as `IsReadyOf` says, and the step is of the job `asker` and the operation `asked`
  pub record IsReadyFor (book : BookData T) (asker : ℕ) (asked : OpData) (made : ReadyData P R) : Type 0 where
    pub ready : IsReadyOf book made
    pub job : made.entry.job ≡ asker
    pub op : made.entry.op ≡ asked

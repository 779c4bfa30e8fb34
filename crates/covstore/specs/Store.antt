-- What a store is to its callers: its content, the tables that it represents, and what is staged.
use Rattle.std.specs.Prelude.{◌≡◌, ℕ, ◌+◌, ◌<◌, ◌≤◌, ◌^◌, List, ◌++◌, Some, None, length}
use Rattle.covdata.specs.Row.{Row, SubmissionData, rows_of}
use Rattle.covdata.specs.Lawful.{IsLawful}
use Rattle.covtable.specs.declared.totals.Totals.{Totals}
use Rattle.covtable.specs.Clash.{Agree, checksums_in, clash_of}
use Rattle.covtable.specs.Content.{SectionData}
use Rattle.covtable.specs.Refuse.{RefuseData, ClashRefuse, MemoryRefuse}
use Rattle.covstore.specs.State.{FileData, IsStateOf, totals_in}
use Rattle.covtable.specs.Shown.{ShownData, max_members, SameContent as SameShown, StandsFor as ShownFor}
use Rattle.covtable.specs.Table.{Table}

-- the sections, and the number of submissions; the files, committed and staged; and the totals after the next commit
pub record StoreData : Type 0 where
  pub sections : List SectionData
  pub members : ℕ
  pub committed : List (List ℕ × FileData)
  pub staged : List (List ℕ × FileData)
  pub after : Totals

-- what the store shows to its callers
abbrev pub shown_of : StoreData → ShownData
shown_of store = record { sections = store.sections; members = store.members }

-- the same content; what is staged may differ
abbrev pub SameContent : StoreData → StoreData → Type 0
SameContent before after = SameShown (shown_of before) (shown_of after)

-- if the files before are the state of some rows, the files after are their state too. The totals of both are the same. Files and
-- tests without points may be added
pub record KeepsState (before after : List (List ℕ × FileData)) : Type 0 where
  pub states : (rows : List Row) → IsStateOf rows before → IsStateOf rows after
  pub totals : totals_in after ≡ totals_in before

-- the content stays, and the committed files are the state of the same rows; what is staged may differ
pub record SameCommitted (before after : StoreData) : Type 0 where
  pub sections : after.sections ≡ before.sections
  pub members : after.members ≡ before.members
  pub committed : KeepsState before.committed after.committed

-- the store represents the table
abbrev pub StandsFor : StoreData → Table → Type 0
StandsFor store table = ShownFor (shown_of store) table

-- a plan: the totals after its commit. What makes it a plan of a store is private to the store
pub record PlanData : Type 0 where
  pub after : Totals

-- if the files before are the state of some rows whose checksums agree, the files after are the state of these rows and the added
-- ones. The added rows clash neither with these nor with each other
abbrev pub AddsTo : List Row → List (List ℕ × FileData) → List (List ℕ × FileData) → Type 0
AddsTo added before after =
    (rows : List Row) → IsStateOf rows before → Agree (checksums_in rows)
    → (clash_of rows added ≡ None) × IsStateOf (rows ++ added) after × Agree (checksums_in (rows ++ added))

-- the store is as `prepare` left it when it made this plan for this submission. The submission is lawful and clashes with
-- nothing. The staged files are the committed ones with the submission added, and the plan's totals are theirs. Callers pass the
-- plan on to `commit`, and look at nothing else in it
pub record IsPlanOf (store : StoreData) (submission : SubmissionData) (plan : PlanData) : Type 0 where
  pub lawful : IsLawful submission
  pub adds : AddsTo (rows_of submission) store.committed store.staged
  pub planned : plan.after ≡ store.after
  pub totals : store.after ≡ totals_in store.staged
  pub few : store.members < max_members

-- ---- staging rows

-- the rows are added to what is staged. If the totals after the next commit were those of the staged files, they still are
pub record AddsRows (added : List Row) (before after : StoreData) : Type 0 where
  pub adds : AddsTo added before.staged after.staged
  pub totals : before.after ≡ totals_in before.staged → after.after ≡ totals_in after.staged

-- if the refusal is a clash: whatever rows the files are the state of, it is the first clash of the added rows with those rows
abbrev pub ClashesAmong : List Row → List (List ℕ × FileData) → RefuseData → Type 0
ClashesAmong added files MemoryRefuse = Unit {0}
ClashesAmong added files (ClashRefuse clash) = (rows : List Row) → IsStateOf rows files → Agree (checksums_in rows) → clash_of rows added ≡ Some clash

abbrev pub ClashesWith : List Row → StoreData → RefuseData → Type 0
ClashesWith added store refusal = ClashesAmong added store.staged refusal

-- the staged files are the state of some rows, whose number leaves room for the added ones
pub record HasRoomForRows (added : List Row) (store : StoreData) : Type 0 where
  pub rows : List Row
  pub state : IsStateOf rows store.staged
  pub agree : Agree (checksums_in rows)
  pub few : length rows + length added ≤ 2 ^ 47
  pub totals : store.after ≡ totals_in store.staged

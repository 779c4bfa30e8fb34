-- What contracts see of a history and of a book, and the invariant of a book.
use Rattle.std.specs.Prelude.{◌≡◌, ℕ, ◌≤◌, List, length}
use Rattle.covtable.specs.Shown.{ShownData, StandsFor, SameContent}
use Rattle.covbook.specs.Op.{EntryData, AreLawfulOps}
use Rattle.covbook.specs.Step.{IsLegal, table_of, ops_in, max_entries}

-- the entries of a history, and how many entries there is room for in all without a growth
pub record HistoryData : Type 0 where
  pub entries : List EntryData
  pub room : ℕ

-- a book over a store of type `T`: the entries of its history, how many entries there is room for in all, what its store shows, and
-- the store itself. A step that was made ready relies on all of them
pub record BookData (T : Type 0) : Type 0 where
  pub entries : List EntryData
  pub room : ℕ
  pub store : ShownData
  pub held : T

-- both books have the same history, and their stores have the same content. The room and the rest of the stores may differ
pub record SameBook {T : Type 0} (before after : BookData T) : Type 0 where
  pub entries : after.entries ≡ before.entries
  pub content : SameContent before.store after.store

-- the history is legal, and its operations are lawful. The store represents the last table of the history's run. `accepted` is
-- the number of accepted submissions, which is the length of that table
pub record IsBook (store : ShownData) (accepted : ℕ) (entries : List EntryData) : Type 0 where
  pub legal : IsLegal entries
  pub lawful : AreLawfulOps (ops_in entries)
  pub stands : StandsFor store (table_of (ops_in entries))
  pub number : accepted ≡ length (table_of (ops_in entries))
  pub few : length entries ≤ max_entries
  pub fewer : accepted ≤ length entries

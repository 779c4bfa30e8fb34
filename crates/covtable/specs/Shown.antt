-- What a store shows of itself, and the tables that it represents.
use Rattle.std.specs.Prelude.{◌≡◌, ℕ, ◌≤◌, List, length}
use Rattle.std.specs.List.{AllByRecursion}
use Rattle.covdata.specs.Lawful.{max_items}
use Rattle.covtable.specs.Clash.{Agree, checksums_in}
use Rattle.covtable.specs.Content.{SectionData, content_at}
use Rattle.covtable.specs.Table.{Table, all_rows}

-- the largest number of submissions in a store
abbrev pub max_members : ℕ
max_members = 1048576

-- the sections of a store, and the number of its submissions
pub record ShownData : Type 0 where
  pub sections : List SectionData
  pub members : ℕ

-- the same content; what is staged may differ
pub record SameContent (before after : ShownData) : Type 0 where
  pub sections : after.sections ≡ before.sections
  pub members : after.members ≡ before.members

-- the store represents the table: its content is the value of all rows of the table, and it has as many submissions as the table
-- has members. In the table, no line of a file has two different checksums. The table has at most `max_members` members, and each
-- of them has at most `max_items` rows
pub record StandsFor (store : ShownData) (table : Table) : Type 0 where
  pub content : store.sections ≡ content_at table
  pub members : store.members ≡ length table
  pub agree : Agree (checksums_in (all_rows table))
  pub few : length table ≤ max_members
  pub small : AllByRecursion (λ rows. length rows ≤ max_items) table

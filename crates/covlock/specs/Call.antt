-- What a successful call returns.
use Rattle.std.specs.Prelude.{◌≡◌, ◌+◌, ℕ, ◌<◌, List, [], ◌∷◌, ◌++◌, length}
use Rattle.covbook.specs.Op.{OpData, EntryData, ReceiptData}
use Rattle.covbook.specs.Step.{IsLegal, answer_of, table_of, ops_in, max_entries}

-- the receipt is that of a step that is taken right after this legal history, which isn't full. Its place is the number of
-- entries before it, and its answer is the one that follows from their table
pub record IsReceiptAfter (before : List EntryData) (asked : OpData) (told : ReceiptData) : Type 0 where
  pub legal : IsLegal before
  pub few : length before < max_entries
  pub receipt : told ≡ record { place = length before; op = asked; answer = answer_of (table_of (ops_in before)) asked }

-- there is a legal history with as many entries as the receipt's place says, and the receipt is that of this operation right
-- after it
abbrev pub IsReceiptFor : OpData → ReceiptData → Type 0
IsReceiptFor asked told = (before : List EntryData) × IsReceiptAfter before asked told

-- the news are of a legal history that ends with the call's entry. This entry has the call's job and operation and the receipt's
-- answer, and it is at the receipt's place
pub record IsNewsOf (job : ℕ) (asked : OpData) (told : ReceiptData) (history : List EntryData) : Type 0 where
  pub legal : IsLegal history
  pub before : List EntryData
  pub entry : EntryData
  pub ends : history ≡ before ++ entry ∷ []
  pub own : entry.job ≡ job
  pub asks : entry.op ≡ asked
  pub answer : entry.answer ≡ told.answer
  pub place : length history ≡ told.place + 1

-- Noted histories. `IsPrefix shorter longer` says that the longer list begins with the shorter one: some rest follows.
use Rattle.std.specs.Prelude.{◌≡◌, ℕ, ◌==◌, true, List, [], ◌∷◌, ◌++◌, length, MatchBool}
pub use mathlib.Core.List.{IsPrefix}
use Rattle.logbook.specs.Pages.{Book, Cell, Named, Step, View}
use Rattle.covbook.specs.Op.{EntryData}
use Rattle.covbook.specs.Step.{IsLegal}

-- a noted history is legal, and the first of its two words in memory is its length. The second word isn't used
pub record IsNoted (words : List Cell) (history : List EntryData) : Type 0 where
  pub word : words ≡ (length history, true) ∷ (0, true) ∷ []
  pub legal : IsLegal history

-- the word of a book that holds the length of its noted history
abbrev pub length_of : Book → Named
length_of book = record { tracked = true; key = 0; book = book }

-- if the step found the length that it expected, it has appended its entry to the history that was seen before the step. If the
-- step found another length, this says nothing
abbrev pub Appends : Step EntryData → View EntryData ℕ → ℕ → View EntryData ℕ → Type 0
Appends step before found after = MatchBool (found == step.old) (after.0 ≡ before.0 ++ step.ask ∷ []) (Unit {0})

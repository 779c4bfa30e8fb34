-- What a snapshot says of a noted history.
use Rattle.std.specs.Prelude.{◌≡◌, ℕ, List, length}
use Rattle.covtable.specs.declared.totals.Totals.{Totals}
use Rattle.covbook.specs.Op.{EntryData}
use Rattle.covbook.specs.Step.{last_totals}

-- a number and totals describe a history: it has this number of entries, and these are the totals after the last of
-- them
pub record Describes (number : ℕ) (last : Totals) (history : List EntryData) : Type 0 where
  pub upto : number ≡ length history
  pub totals : last ≡ last_totals history

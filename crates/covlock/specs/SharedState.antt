-- What holds of a shared book whenever its lock is free.
use Rattle.std.specs.Prelude.{◌≡◌, ℕ, ◌≤◌, List, length}
use Rattle.covbook.specs.Op.{EntryData}
use Rattle.covbook.specs.Step.{IsLegal, max_entries}
use Rattle.covlock.specs.Weight.{weight_below}

-- the history is legal. All of it is noted, and all of it is published. The count of the calls has the weight of one call for each
-- entry. The share that is kept with the book has no part of this count, since the seats have all parts. The book's own invariant
-- says that the store represents the last table of the history's run
pub record IsAtRest (entries noted published : List EntryData) (total parts amount : ℕ) : Type 0 where
  pub legal : IsLegal entries
  pub few : length entries ≤ max_entries
  pub all_noted : noted ≡ entries
  pub all_published : published ≡ entries
  pub counted : total ≡ weight_below (length entries)
  pub no_part : parts ≡ 0
  pub no_amount : amount ≡ 0

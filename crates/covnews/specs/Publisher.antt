-- What contracts see of a history's seed, and of a publisher.
use Rattle.std.specs.Prelude.{ℕ, List}
pub use Rattle.logbook.specs.Pages.{Book}
use Rattle.covbook.specs.Op.{EntryData}

-- the name of the history that begins with this seed
pub record HistorySeedData : Type 0 where
  pub book : Book

-- the noted history, the published history, and for how many more readers there are places
pub record PublisherData : Type 0 where
  pub noted : List EntryData
  pub published : List EntryData
  pub places : ℕ

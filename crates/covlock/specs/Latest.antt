-- The history of a job's latest news.
use Rattle.std.specs.Prelude.{List, [], Option, None, Some}
use Rattle.covbook.specs.Op.{EntryData}

-- the history of the latest news; the empty one if there are none yet
abbrev pub history_of : Option (List EntryData) → List EntryData
history_of None = []
history_of (Some history) = history

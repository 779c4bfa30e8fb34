-- What a seat knows of its calls.
use Rattle.std.specs.Prelude.{◌≡◌, ℕ, ◌+◌, ◌<◌, ◌≤◌, List}
use Rattle.std.specs.List.{AllByRecursion, Contains}
use Rattle.covbook.specs.Gather.{places_of, places_in}
use Rattle.covbook.specs.Kept.{IsKept, IsPrefix}
use Rattle.covbook.specs.Op.{EntryData}
use Rattle.covbook.specs.Step.{max_entries}
use Rattle.covlock.specs.Seat.{SeatData, log_of, logs_of}
use Rattle.covlock.specs.Weight.{weight}

-- the seat's log has a receipt for each of its calls, and is of the history of the seat's latest news. The last entry that the seat
-- has seen is that of a call of its own. The seat's share of the count has the weight of all its calls
pub record IsLogged (seat : SeatData) (latest : List EntryData) (amount : ℕ) : Type 0 where
  pub kept : IsKept (log_of seat) seat.calls seat.seen latest
  pub last : (place : ℕ) → place + 1 ≡ seat.seen → Contains (places_of (log_of seat)) place
  pub each : seat.calls ≤ seat.seen
  pub few : seat.seen ≤ max_entries
  pub weighs : amount ≡ weight (places_of (log_of seat))

-- the seat's log is of the history of the seat's latest news, and this is a beginning of that history
pub record HasSeen (history : List EntryData) (seat : SeatData) : Type 0 where
  pub latest : List EntryData
  pub kept : IsKept (log_of seat) seat.calls seat.seen latest
  pub prefix : IsPrefix latest history

-- the seats have seen beginnings of one history, and the weight of all their calls leads from `before` to `after`
pub record AreLogged (history : List EntryData) (seats : List SeatData) (before after : ℕ) : Type 0 where
  pub seen : AllByRecursion (HasSeen history) seats
  pub last : AllByRecursion (λ (s : SeatData). (place : ℕ) → place + 1 ≡ s.seen → Contains (places_in (logs_of seats)) place) seats
  pub few : AllByRecursion (λ (place : ℕ). place < max_entries) (places_in (logs_of seats))
  pub weighs : after ≡ before + weight (places_in (logs_of seats))

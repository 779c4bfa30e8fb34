use Rattle.std.specs.Prelude.{◌≡◌, ℕ, ◌+◌, ◌≤◌, List, length}
use Rattle.covbook.specs.Kept.{IsPrefix}
use Rattle.covbook.specs.Op.{EntryData}
use Rattle.covlock.specs.Logs.{AreLogged}
use Rattle.covlock.proofs.seat_list.Seats.give_shares.Given as goal

-- the parts of the share, and those of the seats left, are together as many as at first. If the seats left have seen
-- beginnings of a history that begins with the longest news so far, all seats have
abbrev pub invariant-loop-seat : goal.invariant-loop-seat
invariant-loop-seat g l =
    (l.to.parts + length l.seat-iterator.rest.items ≡ l.fn.to.parts + length l.fn.self)
    × (l.to.parts ≤ g.L.Ledger.parts)
    × IsPrefix l.fn.news l.all
    × ((history : List EntryData) (after : ℕ) → IsPrefix l.all history → AreLogged history l.seat-iterator.rest.items l.to.amount after → AreLogged history l.fn.self l.fn.to.amount after)

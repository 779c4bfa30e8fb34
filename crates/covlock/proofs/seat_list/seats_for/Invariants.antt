use Rattle.std.specs.Prelude.{◌≡◌, ◌+◌}
use Rattle.covlock.specs.Seat.{first_seats}
use Rattle.covlock.proofs.seat_list.seats_for.Given as goal

-- each job so far has its seat, and one part of the share is left for each other job
abbrev pub invariant-loop-job : goal.invariant-loop-job
invariant-loop-job g l = (l.all.parts + l.job ≡ l.jobs) × (l.all.amount ≡ 0) × (l.seats ≡ first_seats l.job)

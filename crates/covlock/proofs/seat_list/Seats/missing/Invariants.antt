use Rattle.covlock.specs.Handed.{AllAreSeated}
use Rattle.covlock.proofs.seat_list.Seats.missing.Given as goal

-- each job so far has a seat in the list
abbrev pub invariant-loop-job : goal.invariant-loop-job
invariant-loop-job g l = AllAreSeated l.job l.self

use Rattle.std.proofs.Common.{sym, ◌∙◌}
use Rattle.covlock.proofs.seat_list.Seats.missing.Goals as goal

pub returns-then-not-has : goal.returns-then-not-has
returns-then-not-has g c = record {
  is_job = c.loop-job-test.true;
  missing = sym c.has.ensures ∙ c.if-not-has.true;
  least = c.loop-job.invariant;
}

use Rattle.std.specs.Prelude.{◌≡◌}
use Rattle.covworkers.specs.Work.{MayHaveReader}
use Rattle.covworkers.proofs.GoingOn.{IsGoingOn}
use Rattle.covworkers.proofs.worker.work.Given as goal

-- the job has read its share so far, and has taken it if nothing was refused. If the job has a reader, it then has one reading
-- after each submit
abbrev pub invariant-loop-placed : goal.invariant-loop-placed
invariant-loop-placed g l =
    (l.worker.seat.job ≡ l.fn.seat.job)
    × IsGoingOn g.T.LateInput.may_give l.fn.inputs.value.items l.fn.jobs l.fn.seat.job l.placed-iterator.rest.items l.first l.parts l.worker
    × MayHaveReader l.fn.readers l.worker.has_reader

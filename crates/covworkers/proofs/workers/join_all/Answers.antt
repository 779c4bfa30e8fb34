use Rattle.std.proofs.Common.{arith}
use Rattle.std.proofs.lemmas.List.{nil_from_length}
use Rattle.covworkers.specs.Late.{chances_of}
use Rattle.covworkers.proofs.Ended.{ended_at_end}
use Rattle.covworkers.proofs.workers.join_all.Goals as goal

-- after the loop no handle is left, so the ends so far are those of all workers
pub returns : goal.returns
returns g c =
    let rest = c.loop-handle.handle-iterator.rest in
    ended_at_end (chances_of g.T.LateInput.may_give g.T.LateInput.may_fail) (λ h. h.promise) c.args.handles.items rest.items c.loop-handle.ended.items c.loop-handle.invariant
    (nil_from_length rest.items (omega (arith, c.in-None.ensures.steps.0, rest.ok.0)))

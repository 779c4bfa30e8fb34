use Rattle.std.specs.Prelude.{◌++◌, List, Result, map}
use Rattle.covworkers.specs.declared.stop.Stop.{Stop}
use Rattle.covworkers.specs.Late.{chances_of}
use Rattle.covworkers.specs.Work.{WorkerData, HaveEnded}
use Rattle.covworkers.proofs.workers.join_all.Given as goal

-- the ends so far are those of the first workers: if any ends of the workers left follow them, these are the ends of all workers
abbrev pub invariant-loop-handle : goal.invariant-loop-handle
invariant-loop-handle g l =
    (rest : List (Result (WorkerData g.row.T-Fault.Denot) Stop)) → HaveEnded (chances_of g.T.LateInput.may_give g.T.LateInput.may_fail) (map (λ h. h.promise) l.handle-iterator.rest.items) rest
    → HaveEnded (chances_of g.T.LateInput.may_give g.T.LateInput.may_fail) (map (λ h. h.promise) l.fn.handles.items) (l.ended.items ++ rest)

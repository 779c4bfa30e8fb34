use Rattle.std.specs.Prelude.{◌≡◌, ◌++◌, List, Result, map}
use Rattle.std.specs.List.{AllByRecursion}
use Rattle.covlock.specs.Seat.{fresh_seat}
use Rattle.covworkers.specs.declared.stop.Stop.{Stop}
use Rattle.covworkers.specs.Late.{chances_of}
use Rattle.covworkers.specs.Shares.{share_of}
use Rattle.covworkers.specs.Work.{WorkerData, HaveEnded, work_of}
use Rattle.covworkers.proofs.workers.work_in_turn.Given as goal

-- the ends so far are those of the first seats' workers: if any ends of the seats left follow them, these are the ends of all. There
-- is a share for each seat that is left, and these seats have made no call
abbrev pub invariant-loop-seat : goal.invariant-loop-seat
invariant-loop-seat g l =
    ((rest : List (Result (WorkerData g.row.T-Fault.Denot) Stop)) → HaveEnded (chances_of g.T.LateInput.may_give g.T.LateInput.may_fail) (map (work_of l.inputs.value.items l.jobs l.readers) l.seat-iterator.rest.items) rest
    → HaveEnded (chances_of g.T.LateInput.may_give g.T.LateInput.may_fail) (map (work_of l.inputs.value.items l.jobs l.readers) l.initial.seat-iterator.rest.items) (l.ended.items ++ rest))
    × (map (λ share. share.items) l.shares.rest.items ≡ map (λ seat. share_of l.inputs.value.items l.jobs seat.job) l.seat-iterator.rest.items)
    × AllByRecursion (λ seat. seat ≡ fresh_seat seat.job) l.seat-iterator.rest.items

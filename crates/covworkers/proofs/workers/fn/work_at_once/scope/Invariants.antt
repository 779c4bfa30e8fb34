use Rattle.std.specs.Prelude.{◌≡◌, ◌++◌, IsTrue, map}
use Rattle.std.specs.List.{AllByRecursion}
use Rattle.covlock.specs.Seat.{fresh_seat}
use Rattle.covworkers.specs.Shares.{share_of}
use Rattle.covworkers.specs.Work.{work_of}
use Rattle.covworkers.proofs.workers.fn.work_at_once.scope.Given as goal

-- as long as all workers so far could be started, they and the seats that are left have the work of all seats. There is a share for
-- each seat that is left, and these seats have made no call
abbrev pub invariant-loop-seat : goal.invariant-loop-seat
invariant-loop-seat g l =
    (IsTrue l.all_started
    → map (λ h. h.promise) l.handles.items ++ map (work_of l.inputs.now.value.items l.jobs l.readers) l.seat-iterator.rest.items ≡ map (work_of l.inputs.now.value.items l.jobs l.readers) l.initial.seat-iterator.rest.items)
    × (map (λ share. share.items) l.shares.rest.items ≡ map (λ seat. share_of l.inputs.now.value.items l.jobs seat.job) l.seat-iterator.rest.items)
    × AllByRecursion (λ seat. seat ≡ fresh_seat seat.job) l.seat-iterator.rest.items

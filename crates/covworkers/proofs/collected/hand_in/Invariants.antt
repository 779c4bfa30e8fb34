use Rattle.std.specs.Prelude.{◌≡◌, ◌++◌}
use Rattle.covworkers.specs.Work.{seats_in, logs_in, refused_in}
use Rattle.covworkers.proofs.collected.hand_in.Given as goal

-- what the workers so far have handed in, followed by what the workers left hand in, is what all hand in
abbrev pub invariant-loop-worker : goal.invariant-loop-worker
invariant-loop-worker g l =
    (l.seats ++ seats_in l.worker-iterator.rest.items ≡ seats_in l.fn.workers.items)
    × (l.logs ++ logs_in l.worker-iterator.rest.items ≡ logs_in l.fn.workers.items)
    × (l.refused ++ refused_in l.worker-iterator.rest.items ≡ refused_in l.fn.workers.items)

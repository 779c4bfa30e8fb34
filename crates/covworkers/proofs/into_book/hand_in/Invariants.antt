use Rattle.std.specs.Prelude.{◌≡◌, ◌++◌}
use Rattle.std.specs.List.{AllByRecursion}
use Rattle.covworkers.specs.Work.{HasReceipts, seats_in, refused_in}
use Rattle.covworkers.proofs.into_book.hand_in.Given as goal

-- what the workers so far have handed in, followed by what the workers left hand in, is what all hand in. If the workers left have the
-- receipts of their seats, all have
abbrev pub invariant-loop-worker : goal.invariant-loop-worker
invariant-loop-worker g l =
    (l.seats ++ seats_in l.worker-iterator.rest.items ≡ seats_in l.fn.workers.items)
    × (l.refused ++ refused_in l.worker-iterator.rest.items ≡ refused_in l.fn.workers.items)
    × (AllByRecursion (λ w. HasReceipts w) l.worker-iterator.rest.items → AllByRecursion (λ w. HasReceipts w) l.fn.workers.items)

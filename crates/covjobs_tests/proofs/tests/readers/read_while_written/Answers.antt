use borrow.Author.Rules.{rules}
use denote.Param.{param}
use denote.Param.Send.{IsSend, IsSync, recorded_send, sendable, struct_send}
use denote.RattleType.{RattleType}
use denote.Struct.Declared.{shape}
use Rattle.std.proofs.Crossing as heap
use Rattle.covbook.proofs.entry.Entry.TheSendSync as entry
use Rattle.covbook.proofs.log.JobLog.TheSendSync as log
use Rattle.covlock.proofs.Crossing.{seat_send, shared_sync}
use Rattle.covjobs_tests.specs.contracts.tests.readers.Told as Told
use Rattle.covjobs_tests.proofs.tests.readers.read_while_written.Goals as goal

-- the closure may go to another thread, since threads may share the book
pub join-told-requires-send-F : goal.join-told-requires-send-F
join-told-requires-send-F g c κs within =
    let runtime : IsSync g.row.R = search (rules, c.requires) parts 8 in
    let stored : IsSend (param 2 g.row.T) = search (rules, c.requires) parts 8 in
    search (sendable, heap.crosses, shared_sync, entry.the_send, seat_send) depth 60 fits 20000

-- the seats and the log that it gives back
told_send : (L : RattleType) (n : _) (l : _) → IsSend (Told.the_row L n l)
told_send L n l =
    recorded_send (Told.the_field L n l).row _ _ (Told.the_type L n l).to_one
    (struct_send (shape (Told.the_type L n l)) (search (sendable, heap.crosses, seat_send) depth 20, (search (sendable, heap.crosses, log.the_field_send) depth 40 fits 20000, tt)))

-- these may come back from the other thread
pub join-told-requires-send-A : goal.join-told-requires-send-A
join-told-requires-send-A g c κs within = search (sendable, told_send) depth 60 fits 20000

use borrow.Author.Rules.{rules}
use denote.Param.{param}
use denote.Param.Send.{IsSend, IsSync, sendable}
use Rattle.std.proofs.Crossing as heap
use Rattle.covbook.proofs.log.JobLog.TheSendSync as log
use Rattle.covbook.proofs.op.Op.TheSendSync as op
use Rattle.covbook.proofs.entry.Entry.TheSendSync as entry
use Rattle.covlock.proofs.Crossing.{seat_send, shared_sync}
use Rattle.covjobs_tests.proofs.tests.threads.fn.ask_at_once.scope.Goals as goal

-- the closure may go to another thread, since threads may share the book
pub spawn-requires-send-F : goal.spawn-requires-send-F
spawn-requires-send-F g c κs within =
    let runtime : IsSync g.row.R = search (rules, c.requires) parts 8 in
    let table : IsSend g.row.T = search (rules, c.requires) parts 8 in
    let stored : IsSend (param 2 g.row.T) = search (rules, sendable, table) depth 20 in
    search (sendable, heap.crosses, shared_sync, entry.the_send, seat_send, log.the_send, op.the_sync) depth 60 fits 20000

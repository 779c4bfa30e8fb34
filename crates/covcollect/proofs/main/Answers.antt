use denote.Param.Send.{sendable}
use Rattle.std.proofs.Crossing as heap
use Rattle.covstore.proofs.Crossing.{store_send}
use Rattle.covcollect.proofs.main.Goals as goal

-- the store may go to another thread
pub run-status-requires-send-T : goal.run-status-requires-send-T
run-status-requires-send-T c κs = search (sendable, heap.crosses, store_send) depth 60 fits 20000

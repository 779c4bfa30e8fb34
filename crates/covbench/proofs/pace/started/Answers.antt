use denote.Param.Send.{sendable}
use Rattle.std.proofs.Crossing as heap
use Rattle.covstore.proofs.Crossing.{store_send}
use Rattle.covbench.proofs.pace.started.Goals as goal

-- the store may go to another thread
pub measured-requires-send-T : goal.measured-requires-send-T
measured-requires-send-T g c κs = search (sendable, heap.crosses, store_send) depth 60 fits 20000

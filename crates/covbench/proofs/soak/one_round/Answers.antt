use denote.Param.Send.{sendable}
use Rattle.std.proofs.Crossing as heap
use Rattle.covstore.proofs.Crossing.{store_send}
use Rattle.covbench.proofs.soak.one_round.Goals as goal

-- the store may go to another thread
pub soaked-requires-send-T : goal.soaked-requires-send-T
soaked-requires-send-T g c κs = search (sendable, heap.crosses, store_send) depth 60 fits 20000

use denote.Param.Send.{sendable}
use Rattle.std.proofs.Crossing as heap
use Rattle.covstore.proofs.Crossing.{store_send}
use Rattle.covnamed.proofs.collecting.collect_owned.Goals as goal

-- the store may go to another thread
pub collect_owned-requires-send-S : goal.collect_owned-requires-send-S
collect_owned-requires-send-S g c κs within = search (sendable, heap.crosses, store_send) depth 60 fits 20000

use denote.Param.Send.{sendable}
use Rattle.std.proofs.Crossing as heap
use Rattle.covstore.proofs.Crossing.{store_send}
use Rattle.covrun_tests.proofs.tests.run.Goals as goal

-- the store may go to another thread
pub run-requires-send-T : goal.run-requires-send-T
run-requires-send-T g c κs within = search (sendable, heap.crosses, store_send) depth 60 fits 20000

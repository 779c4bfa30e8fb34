use denote.Param.Send.{sendable}
use Rattle.std.proofs.Crossing as heap
use Rattle.covrows.proofs.Crossing.{row_send, rows_send}
use Rattle.covjobs_tests.proofs.tests.collecting.answered.Goals as goal

-- the rows may go to another thread
pub collect-requires-send-S : goal.collect-requires-send-S
collect-requires-send-S g c κs within = search (sendable, heap.crosses, row_send, rows_send) depth 60 fits 20000

use denote.Param.Send.{sendable}
use Rattle.std.proofs.Crossing as heap
use Rattle.covrows.proofs.Crossing.{row_send, rows_send}
use Rattle.covjobs_tests.proofs.tests.collecting.answered_by_owned.Goals as goal

-- the rows may go to another thread
pub collect_owned-requires-send-S : goal.collect_owned-requires-send-S
collect_owned-requires-send-S g c κs within = search (sendable, heap.crosses, row_send, rows_send) depth 60 fits 20000

use denote.Param.Send.{sendable}
use Rattle.std.proofs.Crossing as heap
use Rattle.covrows.proofs.Crossing.{row_send, rows_send}
use Rattle.covjobs_tests.proofs.tests.threads.four_threads.Goals as goal

-- the rows may go to another thread
pub at_once-requires-send-T : goal.at_once-requires-send-T
at_once-requires-send-T g c κs = search (sendable, heap.crosses, row_send, rows_send) depth 60 fits 20000

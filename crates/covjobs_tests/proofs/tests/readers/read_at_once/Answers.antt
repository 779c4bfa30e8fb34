use denote.Param.Send.{sendable}
use Rattle.std.proofs.Crossing as heap
use Rattle.covrows.proofs.Crossing.{row_send, rows_send}
use Rattle.covjobs_tests.proofs.tests.readers.read_at_once.Goals as goal

-- the rows may go to another thread
pub read_while_written-requires-send-T : goal.read_while_written-requires-send-T
read_while_written-requires-send-T g c κs = search (sendable, heap.crosses, row_send, rows_send) depth 60 fits 20000

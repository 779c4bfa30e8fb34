use denote.Param.Send.{sendable}
use Rattle.std.proofs.Crossing as heap
use Rattle.covrows.proofs.Crossing.{row_send, rows_send}
use Rattle.covjobs_tests.proofs.tests.into_book.the_order_of_parts.Goals as goal

-- the rows may go to another thread
pub check_order-requires-send-T : goal.check_order-requires-send-T
check_order-requires-send-T g c κs = search (sendable, heap.crosses, row_send, rows_send) depth 60 fits 20000

use denote.Param.Send.{sendable}
use Rattle.std.proofs.Crossing as heap
use Rattle.covrows.proofs.Crossing.{row_send, rows_send}
use Rattle.covjobs_tests.proofs.tests.into_book.ends_with.Goals as goal

-- the rows may go to another thread
pub ends_over-requires-send-T : goal.ends_over-requires-send-T
ends_over-requires-send-T g c κs within = search (sendable, heap.crosses, row_send, rows_send) depth 60 fits 20000

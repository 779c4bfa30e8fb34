-- Rows on the heap may go to another thread.
use denote.Param.Send.{IsSend, sendable}
use Rattle.std.proofs.Crossing as heap
use Rattle.std_heap.specs.contracts.Global as Heap
use Rattle.std_heap.specs.contracts.GlobalAllocator.TheImpl.{ghosts}
use Rattle.covrows.specs.contracts.row.Row as Row
use Rattle.covrows.specs.contracts.rows.Rows as Rows

pub row_send : IsSend (Row.the_row Heap.the_row ghosts)
row_send = search (sendable, heap.crosses) depth 40 fits 20000

pub rows_send : IsSend (Rows.the_row Heap.the_row ghosts)
rows_send = search (sendable, heap.crosses, row_send) depth 40 fits 20000

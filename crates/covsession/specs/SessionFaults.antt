-- A session's faults: their numbers, which stay the same in all versions, and the session's fault for each fault of the book.
use Rattle.std.specs.Prelude.{ℕ}
use Rattle.covbook.specs.declared.book.BookFault.{BookFault}
use Rattle.covbook.specs.declared.book.BookFault.TheVariants as book_faults
use Rattle.covsession.specs.declared.session.fault.SessionFault.{SessionFault}
use Rattle.covsession.specs.declared.session.fault.SessionFault.TheVariants.{Read, Write, Memory, Full}

abbrev pub fault_number : SessionFault → ℕ
fault_number Read = 1
fault_number Write = 2
fault_number Memory = 3
fault_number Full = 4

-- the session's fault for this fault of the book
abbrev pub of_book : BookFault → SessionFault
of_book book_faults.Full = Full
of_book book_faults.Memory = Memory

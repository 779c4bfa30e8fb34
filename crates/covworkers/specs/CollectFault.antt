-- The numbers of the faults of collecting, and which of these faults is returned for a fault of a start or of the book.
use Rattle.std.specs.Prelude.{ℕ}
use Rattle.covbook.specs.declared.book.BookFault.{BookFault}
use Rattle.covbook.specs.declared.book.BookFault.TheVariants as book
use Rattle.covlock.specs.declared.start.OpenFault.{OpenFault}
use Rattle.covlock.specs.declared.start.OpenFault.TheVariants as open_faults
use Rattle.covworkers.specs.declared.collect_fault.CollectFault.{CollectFault}
use Rattle.covworkers.specs.declared.collect_fault.CollectFault.TheVariants.{BadJobs, Full, Memory, Gather, NotLast}

abbrev pub collect_number : CollectFault → ℕ
collect_number BadJobs = 1
collect_number Full = 2
collect_number Memory = 3
collect_number (Gather fault) = 4
collect_number NotLast = 5

abbrev pub of_open : OpenFault → CollectFault
of_open open_faults.BadJobs = BadJobs
of_open open_faults.Memory = Memory

abbrev pub of_book : BookFault → CollectFault
of_book book.Full = Full
of_book book.Memory = Memory

-- The numbers of a book's faults, which stay the same in all versions.
use Rattle.std.specs.Prelude.{ℕ}
use Rattle.covbook.specs.declared.book.BookFault.{BookFault}
use Rattle.covbook.specs.declared.book.BookFault.TheVariants.{Full, Memory}

abbrev pub fault_number : BookFault → ℕ
fault_number Full = 1
fault_number Memory = 2

-- The numbers of the reasons why no reader is made. They stay the same in all versions.
use Rattle.std.specs.Prelude.{ℕ}
use Rattle.covnews.specs.declared.fault.ReaderFault.{ReaderFault}
use Rattle.covnews.specs.declared.fault.ReaderFault.TheVariants.{NoPlace, Memory}

abbrev pub reader_fault_number : ReaderFault → ℕ
reader_fault_number NoPlace = 1
reader_fault_number Memory = 2

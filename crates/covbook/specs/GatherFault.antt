-- The numbers of the faults of `gather`, which stay the same in all versions.
use Rattle.std.specs.Prelude.{ℕ}
use Rattle.covbook.specs.declared.gather_fault.GatherFault.{GatherFault}
use Rattle.covbook.specs.declared.gather_fault.GatherFault.TheVariants.{Stranger, Differs, Backwards, Missing, BadReading, SameJob}

abbrev pub gather_fault_number : GatherFault → ℕ
gather_fault_number (Stranger log index) = 1
gather_fault_number (Differs log index) = 2
gather_fault_number (Backwards log index) = 3
gather_fault_number (Missing place) = 4
gather_fault_number (BadReading log index) = 5
gather_fault_number (SameJob log) = 6

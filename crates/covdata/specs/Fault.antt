-- The number of each fault of a reader, and the one fault that isn't the text's. The numbers stay the same in all versions.
use Rattle.std.specs.Prelude.{ℕ, Bool, true, false}
use Rattle.covdata.specs.declared.fault.ReadFault.{ReadFault}
use Rattle.covdata.specs.declared.fault.ReadFault.TheVariants.{TooLong, Line, Outside, Inside, OpenEnd, BadMark, NoSource, Percent, Instances, Misplaced, LostFunction, BadTest, Memory}

abbrev pub fault_number : ReadFault → ℕ
fault_number TooLong = 1
fault_number (Line at fault) = 2
fault_number (Outside at) = 3
fault_number (Inside at) = 4
fault_number OpenEnd = 5
fault_number (BadMark at) = 6
fault_number (NoSource at) = 7
fault_number (Percent at) = 8
fault_number (Instances at) = 9
fault_number (Misplaced at) = 10
fault_number LostFunction = 11
fault_number BadTest = 12
fault_number Memory = 13

-- memory ran out, which is no fault of the text
abbrev pub is_memory : ReadFault → Bool
is_memory TooLong = false
is_memory (Line at fault) = false
is_memory (Outside at) = false
is_memory (Inside at) = false
is_memory OpenEnd = false
is_memory (BadMark at) = false
is_memory (NoSource at) = false
is_memory (Percent at) = false
is_memory (Instances at) = false
is_memory (Misplaced at) = false
is_memory LostFunction = false
is_memory BadTest = false
is_memory Memory = true

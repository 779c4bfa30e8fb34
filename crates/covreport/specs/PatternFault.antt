-- The number of each reason why a pattern isn't added. These numbers stay the same in all versions.
use Rattle.std.specs.Prelude.{ℕ}
use Rattle.covreport.specs.declared.patterns.PatternFault.{PatternFault}
use Rattle.covreport.specs.declared.patterns.PatternFault.TheVariants.{TooMany, TooLong, Memory}

abbrev pub fault_number : PatternFault → ℕ
fault_number TooMany = 1
fault_number TooLong = 2
fault_number Memory = 3

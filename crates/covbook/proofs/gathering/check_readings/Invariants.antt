use Rattle.std.proofs.Common.{Result, map, drop}
use Rattle.covbook.specs.declared.gather_fault.GatherFault.{GatherFault}
use Rattle.covbook.specs.EntryView.{entry_data}
use Rattle.covbook.specs.Gather.{reading_claims}
use Rattle.covbook.specs.GatherSteps.{Returns}
use Rattle.covbook.proofs.gathering.check_readings.Given as goal

-- the answer for the readings that are left is the answer for all
abbrev pub invariant-loop-index : goal.invariant-loop-index
invariant-loop-index g l = (r : Result (Unit {0}) GatherFault)
    → Returns r (reading_claims (map entry_data l.entries) l.number l.index (drop l.index l.readings))
    → Returns r (reading_claims (map entry_data l.entries) l.number 0 l.readings)

use Rattle.std.proofs.Common.{Result, map, drop}
use Rattle.covbook.specs.declared.gather_fault.GatherFault.{GatherFault}
use Rattle.covbook.specs.EntryView.{entry_data}
use Rattle.covbook.specs.Gather.{log_claims}
use Rattle.covbook.specs.GatherSteps.{Returns}
use Rattle.covbook.specs.LogView.{log_data}
use Rattle.covbook.proofs.gathering.check_logs.Given as goal

-- the answer for the logs that are left is the answer for all
abbrev pub invariant-loop-number : goal.invariant-loop-number
invariant-loop-number g l = (r : Result (Unit {0}) GatherFault)
    → Returns r (log_claims (map entry_data l.entries) l.number (map log_data (drop l.number l.logs))) → Returns r (log_claims (map entry_data l.entries) 0 (map log_data l.logs))

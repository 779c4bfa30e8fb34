use Rattle.std.proofs.Common.{Result, map, drop}
use Rattle.covbook.specs.declared.gather_fault.GatherFault.{GatherFault}
use Rattle.covbook.specs.EntryView.{entry_data, receipt_data}
use Rattle.covbook.specs.Gather.{receipt_claims}
use Rattle.covbook.specs.GatherSteps.{Returns}
use Rattle.covbook.proofs.gathering.check_receipts.Given as goal

-- the answer for the receipts that are left is the answer for all
abbrev pub invariant-loop-index : goal.invariant-loop-index
invariant-loop-index g l = (r : Result (Unit {0}) GatherFault)
    → Returns r (receipt_claims (map entry_data l.entries) l.log.job l.number l.index l.least (map receipt_data (drop l.index l.receipts)))
    → Returns r (receipt_claims (map entry_data l.entries) l.log.job l.number 0 0 (map receipt_data l.receipts))

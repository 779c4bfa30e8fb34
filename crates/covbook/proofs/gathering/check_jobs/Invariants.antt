use Rattle.std.proofs.Common.{Result, [], map, take, drop}
use Rattle.covbook.specs.declared.gather_fault.GatherFault.{GatherFault}
use Rattle.covbook.specs.Gather.{job_claims}
use Rattle.covbook.specs.GatherSteps.{Returns}
use Rattle.covbook.specs.LogView.{log_data}
use Rattle.covbook.proofs.gathering.check_jobs.Given as goal

-- the answer for the logs that are left is the answer for all
abbrev pub invariant-loop-number : goal.invariant-loop-number
invariant-loop-number g l = (r : Result (Unit {0}) GatherFault)
    → Returns r (job_claims l.number (map (λ log. log.job) (take l.number l.logs)) (map log_data (drop l.number l.logs))) → Returns r (job_claims 0 [] (map log_data l.logs))

use Rattle.std.proofs.Common.{◌≡◌, ◌+◌, drop, map}
use Rattle.covbook.specs.Gather.{places_in}
use Rattle.covbook.specs.GatherSteps.{below}
use Rattle.covbook.specs.LogView.{log_data}
use Rattle.covbook.proofs.places.receipts_below.Given as goal

-- the count so far, and what the logs that are left will add
abbrev pub invariant-loop-log : goal.invariant-loop-log
invariant-loop-log g l = l.count + below l.place (places_in (map log_data (drop l.log-index l.logs))) ≡ below l.place (places_in (map log_data l.logs))

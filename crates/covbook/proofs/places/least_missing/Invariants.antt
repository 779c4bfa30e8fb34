use Rattle.std.proofs.Common.{◌≡◌, ◌-◌, ◌<◌, ◌≤◌, map}
use Rattle.covbook.specs.Gather.{places_in}
use Rattle.covbook.specs.GatherSteps.{below}
use Rattle.covbook.specs.LogView.{log_data}
use Rattle.covbook.proofs.places.least_missing.Given as goal

-- no place below `told` is missing, and some place below `beyond` is missing
abbrev pub invariant-loop-told : goal.invariant-loop-told
invariant-loop-told g l =
    (l.told < l.beyond) × (l.beyond ≤ l.count) × (below l.told (places_in (map log_data l.logs)) ≡ l.told) × (below l.beyond (places_in (map log_data l.logs)) < l.beyond)

abbrev pub decreases-loop-told : goal.decreases-loop-told
decreases-loop-told g l = l.beyond - l.told

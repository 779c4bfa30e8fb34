use Rattle.std.proofs.Common.{◌≡◌, ◌≤◌, take, map}
use Rattle.std.specs.Prelude.{All}
use Rattle.covdata.specs.Row.{items_in}
use Rattle.covdata.specs.SectView.{sect_data}
use Rattle.covdata.specs.Lawful.{max_items, AllFit}
use Rattle.covdata.proofs.checks.count_items.Given as goal

abbrev pub invariant-loop-sect : goal.invariant-loop-sect
invariant-loop-sect g l =
    let seen = take l.sect-index (map sect_data l.sects) in
    record { counted : l.items ≡ items_in seen; few : l.items ≤ max_items; fit : All (λ s. AllFit s.items) seen }

use Rattle.std.proofs.Common.{◌-◌, ◌<◌, length, sym, arith}
use Rattle.std.proofs.lemmas.Bool.{ltb-true}
use Rattle.covbook.specs.EntryView.{entry_data}
use Rattle.covbook.proofs.Checked.{found_at, some_suc, totals_at_last}
use Rattle.covbook.proofs.gathering.totals_after.Goals as goal

pub returns : goal.returns
returns g c =
    let entries = c.args.entries.now in
    let last = c.args.upto - 1 in
    let within : last < length entries = ltb-true last (length entries) (sym c.in_ok-last.ensures.lookup.0) in
    let some = some_suc c.args.upto c.if-upto-eq0.false in (
      omega (arith, within, some),
      totals_at_last (entry_data {A = g.row.A.Denot}) entries last c.args.upto c.in_ok-last.last.now some (found_at entries last c.in_ok-last.last.now within c.in_ok-last.ensures.lookup.1),
    )

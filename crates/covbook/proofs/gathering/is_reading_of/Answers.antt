use Rattle.covbook.specs.EntryView.{entry_data}
use Rattle.covbook.proofs.Checked.{reading_is, same_totals}
use Rattle.covbook.proofs.gathering.is_reading_of.Goals as goal

pub returns-in-Some : goal.returns-in-Some
returns-in-Some g c =
    let reading = c.args.reading.now in
    reading_is (entry_data {A = g.row.A.Denot}) c.args.entries.now reading c.in-Some.totals c.eq.result c.in-Some.ensures.0 c.in-Some.ensures.1
    (same_totals c.in-Some.totals reading.totals c.eq.result c.eq.ensures)

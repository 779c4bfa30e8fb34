use Rattle.std.proofs.Common.{◌∙◌, List, Ok, Err, map, sym, subst, true≢false}
use Rattle.std.proofs.lemmas.List.{drop_all}
use Rattle.covbook.specs.declared.gather_fault.GatherFault.TheVariants.{BadReading}
use Rattle.covbook.specs.declared.reading.Reading.{Reading}
use Rattle.covbook.specs.EntryView.{entry_data}
use Rattle.covbook.specs.Gather.{AllHold, FirstFails, reading_claims}
use Rattle.covbook.specs.Step.{no_totals}
use Rattle.covbook.proofs.Checked.{reading_on, reading_stops}
use Rattle.covbook.proofs.gathering.check_readings.Goals as goal

-- the default that `reading_stops` and `reading_on` take for an index past the end of the readings
abbrev no_reading : Reading
no_reading = record { upto = 0; totals = no_totals }

pub returns-then-not-is_reading_of : goal.returns-then-not-is_reading_of
returns-then-not-is_reading_of g c =
    let entries = map (entry_data {A = g.row.A.Denot}) c.args.entries.now in
    let i = c.loop-index.index in
    subst (λ (rs : List Reading). FirstFails (reading_claims entries c.args.number 0 rs) (BadReading c.args.number i)) c.get-readings.ensures
    (c.loop-index.invariant (Err (BadReading c.args.number i))
    (reading_stops entries c.args.number c.get-readings.result.now i no_reading c.loop-index-test.true (λ is. true≢false (sym (c.is_reading_of.ensures.1 is) ∙ c.if-not-is_reading_of.true))))

pub loop-index-preserved : goal.loop-index-preserved
loop-index-preserved g c = λ r told.
    c.loop-index.invariant r
    (reading_on (map (entry_data {A = g.row.A.Denot}) c.args.entries.now) c.args.number c.get-readings.result.now c.loop-index.index no_reading c.loop-index-test.true
    (c.is_reading_of.ensures.0 c.if-not-is_reading_of.false) r told)

pub returns : goal.returns
returns g c =
    let readings = c.get-readings.result.now in
    let i = c.loop-index.index in
    let entries = map (entry_data {A = g.row.A.Denot}) c.args.entries.now in
    subst (λ (rs : List Reading). AllHold (reading_claims entries c.args.number 0 rs)) c.get-readings.ensures
    (c.loop-index.invariant (Ok tt) (subst (λ (rs : List Reading). AllHold (reading_claims entries c.args.number i rs)) (sym (drop_all i readings c.loop-index-test.false)) tt))

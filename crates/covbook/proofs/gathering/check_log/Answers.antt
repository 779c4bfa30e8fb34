use Rattle.std.proofs.Common.{map}
use Rattle.std.proofs.lemmas.Result.{err_from_is_err_and}
use Rattle.covbook.specs.EntryView.{entry_data}
use Rattle.covbook.specs.LogView.{log_data}
use Rattle.covbook.specs.Gather.{reading_claims, receipt_claims}
use Rattle.covbook.proofs.Claims.{all_join, first_left, first_right}
use Rattle.covbook.proofs.gathering.check_log.Goals as goal

pub returns-in_err-check_receipts : goal.returns-in_err-check_receipts
returns-in_err-check_receipts g c =
    let entries = map (entry_data {A = g.row.A.Denot}) c.args.entries.now in
    let log = log_data c.args.log.now in
    let p = err_from_is_err_and c.from_residual.result c.from_residual.ensures.1 in
    let f = c.in_err-check_receipts.field-0.0 in
    rw (p.1, p.2)
    (first_left (receipt_claims entries log.job c.args.number 0 0 log.receipts) (reading_claims entries c.args.number 0 log.readings) f c.in_err-check_receipts.ensures)

pub returns-in_err-check_readings : goal.returns-in_err-check_readings
returns-in_err-check_readings g c =
    let entries = map (entry_data {A = g.row.A.Denot}) c.args.entries.now in
    let log = log_data c.args.log.now in
    let p = err_from_is_err_and c.from_residual-in_err-check_readings.result c.from_residual-in_err-check_readings.ensures.1 in
    let f = c.in_err-check_readings.field-0.0 in
    rw (p.1, p.2)
    (first_right (receipt_claims entries log.job c.args.number 0 0 log.receipts) (reading_claims entries c.args.number 0 log.readings) f c.in_ok-check_receipts.ensures
    c.in_err-check_readings.ensures)

pub returns : goal.returns
returns g c =
    let entries = map (entry_data {A = g.row.A.Denot}) c.args.entries.now in
    let log = log_data c.args.log.now in
    all_join (receipt_claims entries log.job c.args.number 0 0 log.receipts) (reading_claims entries c.args.number 0 log.readings) c.in_ok-check_receipts.ensures
    c.in_ok-check_readings.ensures

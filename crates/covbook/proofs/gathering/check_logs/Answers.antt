use Rattle.std.proofs.Common.{List, Ok, Err, map, sym, subst}
use Rattle.std.proofs.lemmas.List.{drop_all}
use Rattle.std.proofs.lemmas.Result.{err_from_is_err_and}
use Rattle.covbook.specs.declared.log.JobLog.{JobLog}
use Rattle.covbook.specs.EntryView.{entry_data}
use Rattle.covbook.specs.Gather.{AllHold, log_claims}
use Rattle.covbook.specs.LogView.{log_data}
use Rattle.covbook.proofs.Checked.{log_on, log_stops}
use Rattle.covbook.proofs.gathering.check_logs.Goals as goal

pub returns-in_err-check_log : goal.returns-in_err-check_log
returns-in_err-check_log g c =
    let p = err_from_is_err_and c.from_residual.result c.from_residual.ensures.1 in
    let f = c.in_err-check_log.field-0.0 in
    rw (p.1, p.2)
    (c.loop-number.invariant (Err f)
    (log_stops (map entry_data c.args.entries.now) c.args.logs.now c.loop-number.number c.index-logs-number.result f c.loop-number-test.true c.index-logs-number.is
    c.in_err-check_log.ensures))

pub loop-number-preserved : goal.loop-number-preserved
loop-number-preserved g c = λ r told.
    c.loop-number.invariant r
    (log_on (map entry_data c.args.entries.now) c.args.logs.now c.loop-number.number c.index-logs-number.result c.loop-number-test.true c.index-logs-number.is
    c.in_ok-check_log.ensures r told)

pub returns : goal.returns
returns g c =
    let logs = c.args.logs.now in
    let i = c.loop-number.number in
    let entries = map (entry_data {A = g.row.A.Denot}) c.args.entries.now in
    c.loop-number.invariant (Ok tt)
    (subst (λ (ls : List (JobLog g.row.A.Denot)). AllHold (log_claims entries i (map log_data ls))) (sym (drop_all i logs c.loop-number-test.false)) tt)

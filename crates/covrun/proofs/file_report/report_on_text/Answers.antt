use Rattle.std.proofs.Common.{rules, ◌≡◌}
use Rattle.covdata.specs.declared.fault.ReadFault.TheVariants as reads
use Rattle.covrun.proofs.Checks.{examined_refusal, examined_summary}
use Rattle.covrun.proofs.file_report.report_on_text.Goals as goal

pub returns-in-Ok : goal.returns-in-Ok
returns-in-Ok c =
    examined_summary c.args.format c.args.strictness c.args.shown.now c.args.text.now c.in-Ok.summary c.in-Ok.ensures c.report_on_summary.result
    c.report_on_summary.ensures.report c.report_on_summary.ensures.fault

pub returns-in-Err : goal.returns-in-Err
returns-in-Err c =
    let other : c.in-Err.fault ≡ reads.Memory → ⊥ = search rules in
    examined_refusal c.args.format c.args.strictness c.args.shown.now c.args.text.now c.in-Err.fault c.in-Err.ensures other c.report_on_refusal.result
    (c.report_on_refusal.ensures.report c.args.strictness) c.report_on_refusal.ensures.fault

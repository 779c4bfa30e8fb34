use Rattle.std.proofs.lemmas.Result.{err_from_is_err_and}
use Rattle.covrun.proofs.Checks.{report_broken, reported}
use Rattle.covrun.proofs.file_report.FileReport.write.Goals as goal

pub returns-in_err-put_line : goal.returns-in_err-put_line
returns-in_err-put_line g c =
    let told = err_from_is_err_and c.from_residual.result c.from_residual.ensures.1 in
    rw (told.1, told.2)
    (report_broken c.args.self.now.line.items c.args.self.now.complaint.items _ _ c.args.self.now.verdict _ c.args.sinks.now c.complain.new.sinks c.put_line.new.sinks c.as_slice-2.ensures.value c.as_slice.ensures.value c.in_err-put_line.ensures.fault c.complain.ensures.says c.complain.ensures.withheld c.in_err-put_line.ensures.failed c.in_err-put_line.ensures.begun c.put_line.ensures.silent)

pub returns : goal.returns
returns g c =
    rw (← c.as_slice.ensures.value, ← c.as_slice-2.ensures.value)
    (reported _ _ _ c.args.sinks.now c.complain.new.sinks c.put_line.new.sinks c.complain.ensures.says c.complain.ensures.withheld c.in_ok-put_line.ensures.written c.in_ok-put_line.ensures.sent c.in_ok-put_line.ensures.good c.put_line.ensures.silent)

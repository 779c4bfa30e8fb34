use Rattle.std.proofs.Common.{◌∙◌, inr}
use Rattle.covrun.proofs.Endings.{cut_short}
use Rattle.covrun.proofs.output.print.Goals as goal

pub returns-in-Err : goal.returns-in-Err
returns-in-Err g c =
    inr (cut_short _ _ c.in-Err.fault _ c.args.sinks.now c.put_out.new.self c.complain.new.sinks c.in-Err.ensures.fault (c.complain.ensures.status ∙ c.status_of.ensures) c.line_of.ensures c.in-Err.ensures.failed c.in-Err.ensures.begun c.put_out.ensures.silent
    c.complain.ensures.withheld c.complain.ensures.said)

use Rattle.std.proofs.Common.{◌∙◌}
use Rattle.covrun.proofs.Endings.{answer_cut_short, answer_printed, cut_short}
use Rattle.covrun.proofs.output.print_answer.Goals as goal

pub returns-in-Ok : goal.returns-in-Ok
returns-in-Ok g c =
    answer_printed _ _ _ _ c.args.sinks.now c.print.new.self c.say_shortfalls.new.sinks c.get.ensures c.say_shortfalls.ensures.status (c.in-Ok.ensures.written, c.print.ensures.silent) c.say_shortfalls.ensures.none c.say_shortfalls.ensures.withheld c.say_shortfalls.ensures.said

pub returns : goal.returns
returns g c =
    answer_cut_short _ _ _ _ _
    (cut_short _ _ c.in-Err.failed _ c.args.sinks.now c.print.new.self c.complain.new.sinks c.in-Err.ensures.fault (c.complain.ensures.status ∙ c.status_of.ensures) c.line_of.ensures c.in-Err.ensures.failed c.in-Err.ensures.begun c.print.ensures.silent
    c.complain.ensures.withheld c.complain.ensures.said)

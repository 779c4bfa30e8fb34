use Rattle.std.proofs.Common.{refl}
use Rattle.covcombine.proofs.Reports.{cut_short, printed, tells_both}
use Rattle.covcombine.proofs.report.print.Goals as goal

pub returns-in-Ok : goal.returns-in-Ok
returns-in-Ok g c =
    printed c.args.cut.now c.args.text c.args.warnings.now c.args.missed.now _ c.args.sinks.now c.print.new.self c.say_if_any.new.sinks
    c.given_status.ensures c.in-Ok.ensures.written c.print.ensures.silent c.say_if_any.ensures.withheld
    (tells_both c.args.warnings.now c.args.missed.now c.print.new.self c.say_if_any.new.sinks c.say_if_any.ensures.none c.say_if_any.ensures.said)

pub returns-in-Err : goal.returns-in-Err
returns-in-Err g c =
    cut_short c.args.cut.now c.args.text c.args.warnings.now c.args.missed.now _ c.args.sinks.now c.print.new.self c.say.new.self
    refl c.in-Err.ensures.begun c.in-Err.ensures.failed c.print.ensures.silent c.say.ensures.withheld c.say.ensures.said

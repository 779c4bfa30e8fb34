use Rattle.std.proofs.Common.{sym, ◌∙◌}
use Rattle.covread.proofs.TraceFunctions.{start_alone, start_first, start_again}
use Rattle.covread.proofs.trace.functions.take_start.Goals as goal

pub returns-in_ok-insert-in-Some : goal.returns-in_ok-insert-in-Some
returns-in_ok-insert-in-Some g c = λ before h.
    start_again c.args.functions.now c.insert.new.self c.insert-in-Some.new.self before c.args.line c.args.name.now c.in-Some.before (sym c.in-Some.is ∙ c.in_ok-before.ensures.old)
    (sym c.starts_before.ensures ∙ c.if-starts_before.true) c.in_ok-before.ensures.updates c.in_ok-insert-in-Some.ensures.updates h

pub returns-else-starts_before : goal.returns-else-starts_before
returns-else-starts_before g c = λ before h.
    start_first c.args.functions.now c.insert.new.self before c.args.line c.args.name.now c.in-Some.before (sym c.in-Some.is ∙ c.in_ok-before.ensures.old)
    (sym c.starts_before.ensures ∙ c.if-starts_before.false) c.in_ok-before.ensures.updates h

pub returns-in-None : goal.returns-in-None
returns-in-None g c = λ before h.
    start_alone c.args.functions.now c.insert.new.self before c.args.line c.args.name.now (sym c.in-None.is ∙ c.in_ok-before.ensures.old) c.in_ok-before.ensures.updates h

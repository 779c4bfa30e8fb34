use Rattle.std.proofs.Common.{refl}
use Rattle.covreport.proofs.Bodies.{body_unread, body_read}
use Rattle.covreport.proofs.pattern.parts.read_body.Goals as goal

pub returns-in_err-close : goal.returns-in_err-close
returns-in_err-close c =
    rw (c.from_residual-in_err-close.ensures, body_unread c.args.text.now c.in_ok-behind.field-0-0.now c.in_ok-behind.behind.now c.in_ok-behind.ensures.cases.0 c.in_err-close.ensures) refl

pub returns : goal.returns
returns c = body_read c.args.text.now c.in_ok-behind.field-0-0.now c.in_ok-behind.behind.now c.in_ok-close.close c.in_ok-behind.ensures.cases.0 c.in_ok-close.ensures

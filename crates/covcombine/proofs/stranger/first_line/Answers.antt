use Rattle.std.proofs.Common.{sym}
use Rattle.covcombine.proofs.FirstLines.{front_none, front_some}
use Rattle.covcombine.proofs.stranger.first_line.Goals as goal

pub returns-in-Some : goal.returns-in-Some
returns-in-Some c = sym (front_some c.args.first.now c.in-Some.end c.in-Some.ensures)

pub returns-in-None : goal.returns-in-None
returns-in-None c = sym (front_none c.args.first.now c.in-None.ensures)

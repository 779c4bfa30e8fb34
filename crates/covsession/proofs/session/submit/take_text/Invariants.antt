use Rattle.covsession.specs.Streams.{turns, moment}
use Rattle.covsession.proofs.SessionLines.{IsBegun}
use Rattle.covsession.proofs.session.submit.take_text.Given as goal

abbrev pub invariant-loop-text : goal.invariant-loop-text
invariant-loop-text g l = IsBegun (moment l.initial.input l.initial.output) (moment l.input l.output) l.text

abbrev pub decreases-loop-text : goal.decreases-loop-text
decreases-loop-text g l = turns l.input

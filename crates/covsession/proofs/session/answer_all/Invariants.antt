use Rattle.covbook.specs.Step.{ops_in}
use Rattle.covsession.specs.Streams.{turns, moment}
use Rattle.covsession.specs.Run.{IsSoFar}
use Rattle.covsession.proofs.session.answer_all.Given as goal

abbrev pub invariant-loop-book : goal.invariant-loop-book
invariant-loop-book g l = IsSoFar (moment l.initial.input l.initial.output)
    (moment l.input l.output) (ops_in l.book.entries)

abbrev pub decreases-loop-book : goal.decreases-loop-book
decreases-loop-book g l = turns l.input

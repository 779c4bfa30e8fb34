use Rattle.std.specs.Prelude.{◌≡◌}
use Rattle.covworkers.specs.Late.{chances_of}
use Rattle.covworkers.specs.Work.{IsReading}
use Rattle.covworkers.proofs.Parts.{most_left}
use Rattle.covworkers.proofs.worker.Worker.go_on.Given as goal

-- the parts so far are read, and are taken if nothing was refused
abbrev pub invariant-loop-left : goal.invariant-loop-left
invariant-loop-left g l =
    (l.self.seat.job ≡ l.initial.self.seat.job)
    × (l.self.has_reader ≡ l.initial.self.has_reader)
    × IsReading (chances_of g.T.LateInput.may_give g.T.LateInput.may_fail) l.fn.placed.index l.fn.placed.input l.fn.first l.initial.self l.left l.fault l.parts l.self

-- a part is left as long as the input has one
abbrev pub decreases-loop-left : goal.decreases-loop-left
decreases-loop-left g l = most_left g.T.LateInput.most l.left

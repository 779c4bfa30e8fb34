use Rattle.std.proofs.Common.{sym}
use Rattle.covlcov2.proofs.Passing.{leader_kept, leader_left}
use Rattle.covlcov2.proofs.reader.Lcov2Reader.take_leader.Goals as goal
use Rattle.covlcov2.proofs.reader.Lcov2Reader.take_leader.Goals.{then-is_some+in-Ok, else-is_some}

pub returns : goal.returns
returns g c = λ above inside is.
    elim c.if-is_some.branch [
      | then-is_some+in-Ok w ↦ leader_kept c.args.self.now c.if-is_some.self above inside c.args.index c.args.line w.lead.new.self w.self-is (w.in-Ok.ensures above) (sym w.if-is_some.ensures) is
      | else-is_some w ↦ leader_left c.args.self.now c.if-is_some.self above inside c.args.index c.args.line w.self-is (sym w.if-is_some.ensures) is
    ]

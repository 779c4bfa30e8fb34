use Rattle.std.proofs.Common.{subst}
use Rattle.covlcov2.specs.Numbers.{HasNumbers}
use Rattle.covlcov2.proofs.Blocks.{runs_more, numberings_then}
use Rattle.covlcov2.proofs.numbers.Numbers.number.Goals as goal

pub returns-in_ok-add-in-Some-clause-counted : goal.returns-in_ok-add-in-Some-clause-counted
returns-in_ok-add-in-Some-clause-counted g c = λ above is_excluded taken are q.
    let before = subst (λ n. HasNumbers n above) c.in-Given.is are q in
    rw c.in-Some.is (
      runs_more is_excluded c.args.block c.in-Some.number taken above q _ _ before.0 before.1 (c.in_ok-add-in-Some.ensures q),
      before.1,
    )

pub returns-in-Assigned-clause-counted : goal.returns-in-Assigned-clause-counted
returns-in-Assigned-clause-counted g c =
    numberings_then c.number_in-in-Assigned.result c.in-Assigned.numberings c.number_in-in-Assigned.new.numberings c.args.block c.args.given c.number_in-in-Assigned.ensures.counted c.args.self.now c.in-Assigned.is

use Rattle.std.proofs.Common.{refl}
use Rattle.std.proofs.lemmas.Result.{err_from_is_err_and}
use Rattle.covlcov2.proofs.Fast.{edge_spelled, stopped}
use Rattle.covlcov2.proofs.read.take_first.Goals as goal

pub returns-in_err-take_numbered : goal.returns-in_err-take_numbered
returns-in_err-take_numbered g c =
    let says = c.in-Some-try_branch_line.ensures.says in
    let first = c.in-Some-try_branch_line.first in
    let point = first.point in
    let p = err_from_is_err_and c.from_residual-in_err-take_numbered.result c.from_residual-in_err-take_numbered.ensures.1 in
    rw (p.1, p.2) (
      says.line,
      first.rest.now,
      says.cut,
      tt,
      λ above inside is. stopped _ _ _ _ _ _ _ c.in_err-take_numbered.was (c.take_numbered.ensures says.line (edge_spelled says.line point.line point.block point.branch first.taken says.spells) above inside is),
    )

pub returns-in-Some-try_branch_line : goal.returns-in-Some-try_branch_line
returns-in-Some-try_branch_line g c =
    let says = c.in-Some-try_branch_line.ensures.says in
    let first = c.in-Some-try_branch_line.first in
    let point = first.point in (
      says.line,
      first.rest.now,
      says.cut,
      refl,
      λ above inside is. c.in_ok-take_numbered.ensures says.line (edge_spelled says.line point.line point.block point.branch first.taken says.spells) above inside is,
    )

use Rattle.std.proofs.Common.{ℕ, List, ap}
use Rattle.covbook.specs.Op.{DropTestOp}
use Rattle.covsession.proofs.session.command.drop_op.Goals as goal

pub returns-clause-op : goal.returns-clause-op
returns-clause-op g c = ap (λ (u : List ℕ). DropTestOp u) c.in_ok-of.ensures

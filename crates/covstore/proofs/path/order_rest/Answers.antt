use Rattle.std.proofs.Common.{sym, ◌∙◌, arith}
use Rattle.covstore.proofs.PathOrder.{ended}
use Rattle.covstore.proofs.path.order_rest.Goals as goal

pub returns : goal.returns
returns c =
    c.cmp-2.ensures ∙ ended c.loop-at.at c.args.a.now c.args.b.now (omega arith) (omega arith) (omega arith) ∙ sym c.loop-at.invariant.alike

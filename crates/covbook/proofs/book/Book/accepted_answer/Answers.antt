use Rattle.std.proofs.Common.{ℕ, ◌+◌, length, ap, ◌∙◌, arith}
use Rattle.covbook.specs.Held.{BookData}
use Rattle.covbook.specs.Op.{AcceptedAnswer}
use Rattle.covbook.specs.Step.{ops_in, table_of}
use Rattle.covbook.proofs.book.Book.accepted_answer.Goals as goal

pub returns : goal.returns
returns g c =
    ap (λ (n : ℕ). AcceptedAnswer (n + 1) c.args.items c.args.odd) (c.self.invariant.number ∙ ap (λ (b : BookData g.row.T.Denot). length (table_of (ops_in b.entries))) c.self.view_is)

pub overflow_add-result : goal.overflow_add-result
overflow_add-result g c = omega (arith, c.self.invariant.fewer, c.self.invariant.few)

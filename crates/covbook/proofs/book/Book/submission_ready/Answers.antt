use Rattle.std.proofs.Common.{ℕ, ◌+◌, length, sym, ap, subst, ◌∙◌}
use Rattle.covdata.specs.Row.{items_in}
use Rattle.covbook.specs.Op.{AcceptedAnswer, IsLawfulOp}
use Rattle.covbook.specs.Step.{table_of, totals_at, ops_in}
use Rattle.covbook.specs.View.{answer_data, op_data}
use Rattle.covbook.proofs.Halves.{next_with}
use Rattle.covbook.proofs.Runs.{answer_with, kept_book, table_with}
use Rattle.covbook.proofs.book.Book.submission_ready.Goals as goal

pub invariant_of-self : goal.invariant_of-self
invariant_of-self g c = kept_book (g.T.Table.shown c.self.inside.store) (g.T.Table.shown c.prepare_in.new.store) c.self.inside.accepted c.self.inside.history.entries c.self.invariant c.prepare_in.ensures.content

pub invariant_of-self-in-Err : goal.invariant_of-self-in-Err
invariant_of-self-in-Err g c = kept_book (g.T.Table.shown c.self.inside.store) (g.T.Table.shown c.prepare_in.new.store) c.self.inside.accepted c.self.inside.history.entries c.self.invariant c.prepare_in.ensures.content

pub invariant_of-self-in_err-answer-in-Err : goal.invariant_of-self-in_err-answer-in-Err
invariant_of-self-in_err-answer-in-Err g c = kept_book (g.T.Table.shown c.self.inside.store) (g.T.Table.shown c.prepare_in.new.store) c.self.inside.accepted c.self.inside.history.entries c.self.invariant c.prepare_in.ensures.content

pub ready_to_change-requires-clause-next : goal.ready_to_change-requires-clause-next
ready_to_change-requires-clause-next g c =
    let book = c.self.inside in
    let given = g.S.Submitted.says c.args.submission.now in
    let op = op_data c.in_ok-op.op in
    let table = table_of (ops_in book.history.entries) in
    let same = sym c.in_ok-op.ensures in
    let after = c.in-Ok.ensures.after table c.self.invariant.stands ∙ ap totals_at (sym (table_with (g.T.Table.shown book.store) table op given c.self.invariant.stands c.in-Ok.ensures.agrees same)) in
    let number = length table + 1 in
    let answer =
    c.accepted_answer-answer.ensures
    ∙ ap (λ (n : ℕ). AcceptedAnswer number n c.count_odd.result) c.count_items-items.ensures.count
    ∙ ap (λ (n : ℕ). AcceptedAnswer number (items_in given.sects) n) c.count_odd.ensures
    ∙ answer_with (g.T.Table.shown book.store) table op given c.self.invariant.stands c.in-Ok.ensures.agrees same in
    next_with book.history.entries c.args.job op (answer_data c.accepted_answer-answer.result) c.totals_after-after.result answer (c.totals_after-after.ensures.value ∙ after)

pub ready_to_change-requires-clause-lawful : goal.ready_to_change-requires-clause-lawful
ready_to_change-requires-clause-lawful g c = subst IsLawfulOp (sym c.in_ok-op.ensures) c.count_items-items.ensures.lawful

pub ready_to_note-requires-clause-lawful : goal.ready_to_note-requires-clause-lawful
ready_to_note-requires-clause-lawful g c = subst IsLawfulOp (sym c.in_ok-op.ensures) c.count_items-items.ensures.lawful

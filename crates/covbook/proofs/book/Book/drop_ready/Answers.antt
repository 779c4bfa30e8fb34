use Rattle.std.proofs.Common.{◌≡◌, ℕ, true, List, sym, ap, ◌∙◌}
use Rattle.covtable.specs.Without.{sections_of_test, without_test}
use Rattle.covbook.specs.Op.{DroppedAnswer}
use Rattle.covbook.specs.Step.{has_test, ops_in, table_after_drop, table_of, totals_at}
use Rattle.covbook.specs.View.{answer_data}
use Rattle.covbook.proofs.Halves.{dropped_next, row_there}
use Rattle.covbook.proofs.book.Book.drop_ready.Goals as goal

pub ready_to_change-requires-clause-next : goal.ready_to_change-requires-clause-next
ready_to_change-requires-clause-next g c =
    let book = c.self.inside in
    let table = table_of (ops_in c.args.self.now.entries) in
    let test = c.in_ok-copy.field-0 in
    let there = row_there g.T.Table.shown book.store book.history.room book.history.entries c.args.self.now test c.get.result.now c.self.view_is (c.in_ok-copy.ensures ∙ sym c.get.ensures)
    (c.if-not-has_test.ensures.rows (table_of (ops_in book.history.entries)) c.self.invariant.stands) in
    let same = c.get-2.ensures ∙ sym c.in_ok-copy.ensures in
    dropped_next c.args.self.now.entries c.args.job test (answer_data c.drop_answer-answer.result.0) c.drop_answer-answer.result.1 there
    (c.drop_answer-answer.ensures.answer ∙ ap (λ (t : List ℕ). DroppedAnswer (sections_of_test t table)) same)
    (c.drop_answer-answer.ensures.totals ∙ ap (λ (t : List ℕ). totals_at (without_test t table)) same)

pub ready_to_change-requires-clause-planned : goal.ready_to_change-requires-clause-planned
ready_to_change-requires-clause-planned g c =
    let book = c.self.inside in
    let table = table_of (ops_in c.args.self.now.entries) in
    let test = c.in_ok-copy.field-0 in
    let there : has_test table test ≡ true =
    row_there g.T.Table.shown book.store book.history.room book.history.entries c.args.self.now test c.get.result.now c.self.view_is (c.in_ok-copy.ensures ∙ sym c.get.ensures)
    (c.if-not-has_test.ensures.rows (table_of (ops_in book.history.entries)) c.self.invariant.stands) in
    ap (table_after_drop table test) there ∙ ap (λ (t : List ℕ). without_test t table) (c.in_ok-copy.ensures ∙ sym c.in_ok-copy-2.ensures)

use Rattle.std.proofs.Common.{ℕ, List, sym, ap, ◌∙◌}
use Rattle.covtable.specs.Totals.{totals_of}
use Rattle.covtable.specs.Without.{sections_of_test}
use Rattle.covbook.specs.Op.{RenamedAnswer}
use Rattle.covbook.specs.Step.{has_test, ops_in, table_of}
use Rattle.covbook.proofs.Halves.{renamed_next, renaming_planned}
use Rattle.covbook.proofs.book.Book.rename_ready.Goals as goal

pub ready_to_change-requires-clause-next : goal.ready_to_change-requires-clause-next
ready_to_change-requires-clause-next g c =
    let entries = c.self.inside.history.entries in
    let table = table_of (ops_in entries) in
    let old = c.in_ok-copy.field-0 in
    let new = c.in_ok-copy-2.field-0 in
    let there = ap (has_test table) (c.in_ok-copy.ensures ∙ sym c.get.ensures) ∙ sym (c.if-not-has_test.ensures.rows table c.self.invariant.stands) in
    let same = c.get-2.ensures ∙ sym c.in_ok-copy.ensures in
    let sections = c.sections_moved.ensures ∙ c.in_ok-renaming.ensures.sections table c.self.invariant.stands ∙ ap (λ (t : List ℕ). sections_of_test t table) same in
    let content = c.prepare_rename.ensures.content.sections ∙ c.self.invariant.stands.content in
    renamed_next entries c.args.job old new (RenamedAnswer c.sections_moved.result) c.totals.result there (ap RenamedAnswer sections)
    (c.totals.ensures.value ∙ ap totals_of content ∙ sym (c.renaming_keeps_totals.ensures.totals old new table))

pub ready_to_change-requires-clause-planned : goal.ready_to_change-requires-clause-planned
ready_to_change-requires-clause-planned g c =
    let table = table_of (ops_in c.self.inside.history.entries) in
    let there = ap (has_test table) (c.in_ok-copy.ensures ∙ sym c.get.ensures) ∙ sym (c.if-not-has_test.ensures.rows table c.self.invariant.stands) in
    renaming_planned g.T.Table.plans g.T.Table.renames c.prepare_rename.new.self table c.get-2.result.now c.get-3.result.now c.in_ok-copy.field-0 c.in_ok-copy-2.field-0 c.in_ok-renaming.renaming there
    (c.in_ok-copy.ensures ∙ sym c.get-2.ensures) (c.in_ok-copy-2.ensures ∙ sym c.get-3.ensures) c.in_ok-renaming.ensures.planned

use Rattle.std.proofs.Common.{◌≡◌, ◌∙◌, ap, sym, subst, map, length, arith}
use Rattle.std.specs.List.{insert}
use Rattle.std.specs.Prelude.{nat_lt}
use Rattle.covmap.specs.Staged.{AreAscending, IsTouched}
use Rattle.covmap.proofs.Leads.{lead_le}
use Rattle.covmap.proofs.SlotSearch.{length_map}
use Rattle.covmap.proofs.SlotWrites.{not_there}
use Rattle.covmap.proofs.StagedTouch.{map_insert, number_leads, touched_there, touched_ascending, touched_new}
use Rattle.covmap.proofs.slots.staged.StagedColumns.touch.Goals as goal

pub returns-then-has-clause-ok : goal.returns-then-has-clause-ok
returns-then-has-clause-ok g c =
    let there = c.has.ensures.there.0 c.if-has.true in
    touched_there c.args.slots.now c.args.self.now c.args.page c.saturating_sub-last.result (number_leads c.args.self.now c.args.page c.saturating_sub-last.result c.has.ensures.ascending there) c.requires.columns there

pub returns-then-has-2-clause-ok : goal.returns-then-has-2-clause-ok
returns-then-has-2-clause-ok g c =
    touched_there c.args.slots.now c.args.self.now c.args.page c.search-index.result c.search-index.ensures c.requires.columns (c.has-2.ensures.there.0 c.if-has-2.true)

pub insert_first-requires : goal.insert_first-requires
insert_first-requires g c =
    let columns = c.self.inside.columns in
    let within = lead_le (λ column. nat_lt column.0 c.args.page) c.args.self.now in
    let same : length c.args.self.now ≡ length columns.items = ap length (sym c.self.view_is) ∙ length_map (λ column. (column.0, column.1.items)) columns.items in
    omega (arith, within, same, c.search-index.ensures, columns.ok.0)

pub invariant_of-self-2 : goal.invariant_of-self-2
invariant_of-self-2 g c =
    let view = ap (map (λ column. (column.0, column.1.items))) c.in_ok-insert_first.ensures.ok ∙ map_insert (λ column. (column.0, column.1.items)) c.self.inside.columns.items c.search-index.result (c.args.page, c.in_ok-column.column)
    ∙ ap (λ columns. insert columns c.search-index.result (c.args.page, c.in_ok-column.column.items)) c.self.view_is in
    subst AreAscending (sym view) (touched_ascending c.args.slots.now c.args.self.now c.args.page c.search-index.result c.search-index.ensures c.has-2.ensures.ascending
    (not_there c.has-2.result c.has-2.ensures.there c.if-has-2.false) c.in_ok-column.column.items)

pub returns-clause-ok : goal.returns-clause-ok
returns-clause-ok g c =
    let view = ap (map (λ column. (column.0, column.1.items))) c.in_ok-insert_first.ensures.ok ∙ map_insert (λ column. (column.0, column.1.items)) c.self.inside.columns.items c.search-index.result (c.args.page, c.in_ok-column.column)
    ∙ ap (λ columns. insert columns c.search-index.result (c.args.page, c.in_ok-column.column.items)) c.self.view_is in
    subst (λ columns. IsTouched c.args.slots.now c.args.self.now columns c.args.page c.search-index.result) (sym view)
    (touched_new c.args.slots.now c.args.self.now c.args.page c.search-index.result c.search-index.ensures c.has-2.ensures.ascending
    (not_there c.has-2.result c.has-2.ensures.there c.if-has-2.false) c.in_ok-column.column.items c.requires.columns c.requires.there c.in_ok-column.ensures)

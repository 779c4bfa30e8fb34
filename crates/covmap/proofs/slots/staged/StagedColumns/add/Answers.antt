use Rattle.std.proofs.Common.{◌∙◌, ap, sym, subst, set, length, arith, Some}
use Rattle.std.proofs.Math.ListN.{length-set}
use Rattle.covmap.specs.Staged.{AreAscending, AreColumnsOf, staged_of, with_value_at}
use Rattle.covmap.specs.SlotPlace.{at}
use Rattle.covmap.proofs.StagedSearch.{columns_changed}
use Rattle.covmap.proofs.StagedPut.{seen_column, seen_written, columns_written, staged_written}
use Rattle.covmap.proofs.StagedReads.{value_touched}
use Rattle.covmap.proofs.slots.staged.StagedColumns.add.Goals as goal

pub index_mut-requires-2 : goal.index_mut-requires-2
index_mut-requires-2 g c =
    let t = c.in_ok-index.ensures.ok in
    let column = c.index_mut.result.now in
    let same = seen_column (λ column. (column.0, column.1.items)) c.self.inside.columns.items c.touch.new.self t.front (c.args.place.page, t.column) t.back c.in_ok-index.index c.self.view_is t.is t.at column c.index_mut.ensures.value in
    let long = ap (λ column. length column.1) same in
    omega (arith, long, t.fits, c.requires.slot, column.1.ok.0)

pub invariant_of-self : goal.invariant_of-self
invariant_of-self g c =
    let t = c.in_ok-index.ensures.ok in
    let column = c.index_mut.result.now in
    let same = seen_column (λ column. (column.0, column.1.items)) c.self.inside.columns.items c.touch.new.self t.front (c.args.place.page, t.column) t.back c.in_ok-index.index c.self.view_is t.is t.at column c.index_mut.ensures.value in
    let view = seen_written (λ column. (column.0, column.1.items)) c.self.inside.columns.items c.touch.new.self t.front (c.args.place.page, t.column) t.back c.in_ok-index.index c.self.view_is t.is t.at
    _ (c.args.place.page, set t.column c.args.place.index (Some c.copy.result)) (ap (λ column. (column.0, set column.1 c.args.place.index (Some c.copy.result))) same) in
    subst AreAscending (sym view) (columns_changed c.args.place.page t.column (set t.column c.args.place.index (Some c.copy.result)) t.front t.back (subst AreAscending (c.self.view_is ∙ t.is) c.self.invariant))

pub returns-clause-columns : goal.returns-clause-columns
returns-clause-columns g c =
    let t = c.in_ok-index.ensures.ok in
    let column = c.index_mut.result.now in
    let same = seen_column (λ column. (column.0, column.1.items)) c.self.inside.columns.items c.touch.new.self t.front (c.args.place.page, t.column) t.back c.in_ok-index.index c.self.view_is t.is t.at column c.index_mut.ensures.value in
    let view = seen_written (λ column. (column.0, column.1.items)) c.self.inside.columns.items c.touch.new.self t.front (c.args.place.page, t.column) t.back c.in_ok-index.index c.self.view_is t.is t.at
    _ (c.args.place.page, set t.column c.args.place.index (Some c.copy.result)) (ap (λ column. (column.0, set column.1 c.args.place.index (Some c.copy.result))) same) in
    subst (AreColumnsOf c.args.slots.now) (sym view) (columns_written c.args.slots.now c.args.place.page t.front t.back t.column (set t.column c.args.place.index (Some c.copy.result))
    (length-set t.column c.args.place.index (Some c.copy.result)) (subst (AreColumnsOf c.args.slots.now) t.is t.columns))

pub returns-clause-ok : goal.returns-clause-ok
returns-clause-ok g c =
    let t = c.in_ok-index.ensures.ok in
    let column = c.index_mut.result.now in
    let same = seen_column (λ column. (column.0, column.1.items)) c.self.inside.columns.items c.touch.new.self t.front (c.args.place.page, t.column) t.back c.in_ok-index.index c.self.view_is t.is t.at column c.index_mut.ensures.value in
    let view = seen_written (λ column. (column.0, column.1.items)) c.self.inside.columns.items c.touch.new.self t.front (c.args.place.page, t.column) t.back c.in_ok-index.index c.self.view_is t.is t.at
    _ (c.args.place.page, set t.column c.args.place.index (Some c.copy.result)) (ap (λ column. (column.0, set column.1 c.args.place.index (Some c.copy.result))) same) in
    ap (staged_of c.args.slots.now) view ∙ staged_written c.args.slots.now c.args.self.now c.touch.new.self c.args.place.page c.in_ok-index.index c.args.place.index c.copy.result c.requires.page t
    ∙ ap (λ (value : g.row.V.Denot). with_value_at (at c.args.place) value (staged_of c.args.slots.now c.args.self.now)) c.copy.ensures

pub plus-after-requires : goal.plus-after-requires
plus-after-requires g c =
    let was = value_touched c.args.slots.now c.args.self.now c.touch.new.self c.args.place.page c.in_ok-index.index c.args.place.index c.requires.page c.in_ok-index.ensures.ok c.value_of-before.result c.value_of-before.ensures in
    subst (g.M.Addend.fits c.args.addend) (sym was) c.requires.fits

pub returns-clause-before : goal.returns-clause-before
returns-clause-before g c =
    value_touched c.args.slots.now c.args.self.now c.touch.new.self c.args.place.page c.in_ok-index.index c.args.place.index c.requires.page c.in_ok-index.ensures.ok c.value_of-before.result c.value_of-before.ensures

use Rattle.std.proofs.Common.{◌≡◌, suc, ◌≤◌, ◌∙◌, refl, ap, sym, subst, take, drop, length, arith, None, Some}
use Rattle.std.specs.List.{insert}
use Rattle.covmap.specs.Staged.{AreAscending}
use Rattle.covmap.proofs.StagedGrowth.{front_length, none_among, one_among, here_is}
use Rattle.covmap.proofs.StagedPut.{index_within, seen_column, seen_written}
use Rattle.covmap.proofs.StagedSearch.{columns_changed}
use Rattle.covmap.proofs.SlotWrites.{not_there}
use Rattle.covmap.proofs.slots.staged.StagedColumns.insert_empty.Goals as goal

pub returns-then-not-has : goal.returns-then-not-has
returns-then-not-has g c =
    let among = none_among c.args.self.now c.args.place.page c.index_of-index.result c.index_of-index.ensures c.has.ensures.ascending (not_there c.has.result c.has.ensures.there c.if-not-has.true) in
    record { ok = record { front = take c.index_of-index.result c.args.self.now; here = None; back = drop c.index_of-index.result c.args.self.now; was = among; is = among.is } }

pub index_mut-requires : goal.index_mut-requires
index_mut-requires g c =
    let index = c.index_of-index.result in
    let a = c.has.ensures.ascending in
    let t = one_among c.args.self.now c.args.place.page index c.index_of-index.ensures a (c.has.ensures.there.0 c.if-not-has.false) in
    let at = front_length c.args.self.now c.args.place.page index c.index_of-index.ensures a in
    let within = index_within (λ column. (column.0, column.1.items)) c.self.inside.columns.items c.args.self.now (take index c.args.self.now) (c.args.place.page, t.0) (drop (suc index) c.args.self.now) index c.self.view_is t.1.is at in
    omega (arith, within, c.self.inside.columns.ok.0)

pub insert_empty-requires : goal.insert_empty-requires
insert_empty-requires g c =
    let index = c.index_of-index.result in
    let a = c.has.ensures.ascending in
    let t = one_among c.args.self.now c.args.place.page index c.index_of-index.ensures a (c.has.ensures.there.0 c.if-not-has.false) in
    let at = front_length c.args.self.now c.args.place.page index c.index_of-index.ensures a in
    let column = c.index_mut.result.now in
    let same = seen_column (λ column. (column.0, column.1.items)) c.self.inside.columns.items c.args.self.now (take index c.args.self.now) (c.args.place.page, t.0) (drop (suc index) c.args.self.now) index c.self.view_is t.1.is at column c.index_mut.ensures.value in
    let long = ap (λ column. length column.1) same in
    let room = here_is (λ column. column.0 ≡ c.args.place.page → c.args.place.index ≤ length column.1) c.args.place.page c.args.self.now (take index c.args.self.now) t.0 (drop (suc index) c.args.self.now) t.1 c.requires refl in
    omega (arith, long, room, column.1.ok.0)

pub invariant_of-self : goal.invariant_of-self
invariant_of-self g c =
    let index = c.index_of-index.result in
    let a = c.has.ensures.ascending in
    let t = one_among c.args.self.now c.args.place.page index c.index_of-index.ensures a (c.has.ensures.there.0 c.if-not-has.false) in
    let at = front_length c.args.self.now c.args.place.page index c.index_of-index.ensures a in
    let column = c.index_mut.result.now in
    let same = seen_column (λ column. (column.0, column.1.items)) c.self.inside.columns.items c.args.self.now (take index c.args.self.now) (c.args.place.page, t.0) (drop (suc index) c.args.self.now) index c.self.view_is t.1.is at column c.index_mut.ensures.value in
    let view = seen_written (λ column. (column.0, column.1.items)) c.self.inside.columns.items c.args.self.now (take index c.args.self.now) (c.args.place.page, t.0) (drop (suc index) c.args.self.now) index c.self.view_is t.1.is at
    _ (c.args.place.page, t.0) (ap (λ items. (column.0, items)) c.in_err-insert_empty.ensures.err ∙ same) in
    subst AreAscending (t.1.is ∙ sym view) a

pub returns : goal.returns
returns g c =
    let index = c.index_of-index.result in
    let a = c.has.ensures.ascending in
    let t = one_among c.args.self.now c.args.place.page index c.index_of-index.ensures a (c.has.ensures.there.0 c.if-not-has.false) in
    let at = front_length c.args.self.now c.args.place.page index c.index_of-index.ensures a in
    let column = c.index_mut.result.now in
    let same = seen_column (λ column. (column.0, column.1.items)) c.self.inside.columns.items c.args.self.now (take index c.args.self.now) (c.args.place.page, t.0) (drop (suc index) c.args.self.now) index c.self.view_is t.1.is at column c.index_mut.ensures.value in
    let view = seen_written (λ column. (column.0, column.1.items)) c.self.inside.columns.items c.args.self.now (take index c.args.self.now) (c.args.place.page, t.0) (drop (suc index) c.args.self.now) index c.self.view_is t.1.is at
    _ (c.args.place.page, insert t.0 c.args.place.index None) (ap (λ items. (column.0, items)) c.in_ok-insert_empty.ensures.ok ∙ ap (λ column. (column.0, insert column.1 c.args.place.index None)) same) in
    record { ok = record { front = take index c.args.self.now; here = Some t.0; back = drop (suc index) c.args.self.now; was = t.1; is = view } }

pub invariant_of-self-2 : goal.invariant_of-self-2
unfolding returns
invariant_of-self-2 g c =
    let index = c.index_of-index.result in
    let a = c.has.ensures.ascending in
    let t = one_among c.args.self.now c.args.place.page index c.index_of-index.ensures a (c.has.ensures.there.0 c.if-not-has.false) in
    subst AreAscending (sym (returns g c).ok.is)
    (columns_changed c.args.place.page t.0 (insert t.0 c.args.place.index None) (take index c.args.self.now) (drop (suc index) c.args.self.now) (subst AreAscending t.1.is a))

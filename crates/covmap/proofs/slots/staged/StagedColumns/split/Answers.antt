use Rattle.std.proofs.Common.{◌≡◌, suc, ◌+◌, ◌∙◌, ap, sym, subst, map, take, drop, length, arith, refl, None, Some}
use Rattle.std.specs.List.{AllByRecursion}
use Rattle.covmap.specs.Staged.{AreAscending, IsAmong}
use Rattle.covmap.proofs.StagedGrowth.{front_length, none_among, one_among, here_is, after_halves, halves_ascending, moved_full, seen_halves}
use Rattle.covmap.proofs.StagedPut.{index_within, seen_column}
use Rattle.covmap.proofs.SlotWrites.{not_there}
use Rattle.covmap.proofs.slots.staged.StagedColumns.split.Goals as goal

pub returns-then-not-has : goal.returns-then-not-has
returns-then-not-has g c =
    let index = c.index_of-index.result in
    let now = c.renumber.new.self in
    let among = none_among now c.args.page index c.index_of-index.ensures c.has.ensures.ascending (not_there c.has.result c.has.ensures.there c.if-not-has.true) in
    record {
      ok = record {
        front = take index now;
        here = None;
        back = drop index now;
        was = subst (λ columns. IsAmong c.args.page columns (take index now) None (drop index now)) c.renumber.ensures among;
        is = among.is;
      };
    }

pub index_mut-requires : goal.index_mut-requires
index_mut-requires g c =
    let index = c.index_of-index.result in
    let now = c.renumber.new.self in
    let a = c.has.ensures.ascending in
    let t = one_among now c.args.page index c.index_of-index.ensures a (c.has.ensures.there.0 c.if-not-has.false) in
    let at = front_length now c.args.page index c.index_of-index.ensures a in
    let view = ap (map (λ column. (column.0, column.1.items))) c.in_ok-reserve.ensures.items ∙ c.self.view_is in
    let within = index_within (λ column. (column.0, column.1.items)) c.reserve.new.self.items now (take index now) (c.args.page, t.0) (drop (suc index) now) index view t.1.is at in
    omega (arith, within, c.reserve.new.self.ok.0)

pub split_off-requires : goal.split_off-requires
split_off-requires g c =
    let index = c.index_of-index.result in
    let now = c.renumber.new.self in
    let a = c.has.ensures.ascending in
    let t = one_among now c.args.page index c.index_of-index.ensures a (c.has.ensures.there.0 c.if-not-has.false) in
    let at = front_length now c.args.page index c.index_of-index.ensures a in
    let view = ap (map (λ column. (column.0, column.1.items))) c.in_ok-reserve.ensures.items ∙ c.self.view_is in
    let column = c.index_mut.result.now in
    let same = seen_column (λ column. (column.0, column.1.items)) c.reserve.new.self.items now (take index now) (c.args.page, t.0) (drop (suc index) now) index view t.1.is at column c.index_mut.ensures.value in
    let long = ap (λ column. length column.1) same in
    let full = here_is (λ column. column.0 ≡ c.args.page → length column.1 ≡ 256) c.args.page now (take index now) t.0 (drop (suc index) now) t.1
    (subst (AllByRecursion (λ column. column.0 ≡ c.args.page → length column.1 ≡ 256)) (sym c.renumber.ensures) (moved_full c.args.page 256 c.args.self.now c.requires.full)) refl in
    omega (arith, long, full, column.1.ok.0)

pub overflow_add-index : goal.overflow_add-index
overflow_add-index g c =
    let index = c.index_of-index.result in
    let now = c.renumber.new.self in
    let a = c.has.ensures.ascending in
    let t = one_among now c.args.page index c.index_of-index.ensures a (c.has.ensures.there.0 c.if-not-has.false) in
    let at = front_length now c.args.page index c.index_of-index.ensures a in
    let view = ap (map (λ column. (column.0, column.1.items))) c.in_ok-reserve.ensures.items ∙ c.self.view_is in
    let within = index_within (λ column. (column.0, column.1.items)) c.reserve.new.self.items now (take index now) (c.args.page, t.0) (drop (suc index) now) index view t.1.is at in
    omega (arith, within, c.reserve.new.self.ok.0, c.reserve.new.self.ok.1)

pub insert-requires : goal.insert-requires
insert-requires g c =
    let index = c.index_of-index.result in
    let now = c.renumber.new.self in
    let a = c.has.ensures.ascending in
    let t = one_among now c.args.page index c.index_of-index.ensures a (c.has.ensures.there.0 c.if-not-has.false) in
    let at = front_length now c.args.page index c.index_of-index.ensures a in
    let view = ap (map (λ column. (column.0, column.1.items))) c.in_ok-reserve.ensures.items ∙ c.self.view_is in
    let within = index_within (λ column. (column.0, column.1.items)) c.reserve.new.self.items now (take index now) (c.args.page, t.0) (drop (suc index) now) index view t.1.is at in
    omega (arith, within, c.reserve.new.self.ok.0)

pub returns : goal.returns
returns g c =
    let index = c.index_of-index.result in
    let page = c.args.page in
    let now = c.renumber.new.self in
    let a = c.has.ensures.ascending in
    let t = one_among now page index c.index_of-index.ensures a (c.has.ensures.there.0 c.if-not-has.false) in
    let at = front_length now page index c.index_of-index.ensures a in
    let view = ap (map (λ column. (column.0, column.1.items))) c.in_ok-reserve.ensures.items ∙ c.self.view_is in
    let column = c.index_mut.result.now in
    let same = seen_column (λ column. (column.0, column.1.items)) c.reserve.new.self.items now (take index now) (page, t.0) (drop (suc index) now) index view t.1.is at column c.index_mut.ensures.value in
    let next : page + 1 ≡ suc page = omega arith in
    let first = ap (λ items. (column.0, items)) c.in_ok-following.ensures.items ∙ ap (λ column. (column.0, take 128 column.1)) same in
    let second = ap (λ items. (page + 1, items)) c.in_ok-following.ensures.tail ∙ ap (λ column. (page + 1, drop 128 column.1)) same ∙ ap (λ next. (next, drop 128 t.0)) next in
    record {
      ok = record {
        front = take index now;
        here = Some t.0;
        back = drop (suc index) now;
        was = subst (λ columns. IsAmong page columns (take index now) (Some t.0) (drop (suc index) now)) c.renumber.ensures t.1;
        is = ap (map (λ column. (column.0, column.1.items))) c.in_ok-insert.ensures.items
            ∙ seen_halves (λ column. (column.0, column.1.items)) c.reserve.new.self.items now (take index now) (page, t.0) (drop (suc index) now) index view t.1.is at (column.0, c.split_off.new.self)
            (page + 1, c.in_ok-following.following) (page, take 128 t.0) (suc page, drop 128 t.0) first second;
      };
    }

pub invariant_of-self-2 : goal.invariant_of-self-2
unfolding returns
invariant_of-self-2 g c =
    let index = c.index_of-index.result in
    let page = c.args.page in
    let now = c.renumber.new.self in
    let a = c.has.ensures.ascending in
    let t = one_among now page index c.index_of-index.ensures a (c.has.ensures.there.0 c.if-not-has.false) in
    let split = (returns g c).ok in
    let following = after_halves page c.args.self.now (take index now) (Some t.0) (drop (suc index) now) split.was in
    subst AreAscending (sym split.is) (halves_ascending page t.0 (take index now) (drop (suc index) now) (take 128 t.0) (drop 128 t.0) t.1.below following (subst AreAscending t.1.is a))

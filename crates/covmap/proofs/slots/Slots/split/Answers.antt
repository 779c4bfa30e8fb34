use Rattle.std.proofs.Common.{◌<◌, ◌∙◌, ap, drop, length, set, sym, subst, take, arith}
use Rattle.std.proofs.lemmas.List.{set-get_or}
use Rattle.covmap.specs.Slots.{AreSlots, page_at, with_page_split}
use Rattle.covmap.proofs.PageParts.{page_here}
use Rattle.covmap.proofs.SlotSplit.{split_seen, split_whole}
use Rattle.covmap.proofs.SlotWrites.{on_err}
use Rattle.covmap.proofs.slots.Slots.split.Goals as goal

-- ---- memory is refused before the page is split

pub returns-in_err-reserve-clause-err : goal.returns-in_err-reserve-clause-err
returns-in_err-reserve-clause-err g c = on_err c.from_residual.result (c.in_err-reserve.ensures.items ∙ c.self.view_is)

pub returns-in_err-reserve-clause-fits : goal.returns-in_err-reserve-clause-fits
returns-in_err-reserve-clause-fits g c = omega (arith, ap length c.self.view_is, c.self.inside.pages.ok.0, c.self.inside.pages.ok.1)

pub invariant_of-self : goal.invariant_of-self
invariant_of-self g c = subst (AreSlots g.K.Key.cmp) (sym c.in_err-reserve.ensures.items) c.self.invariant

-- ---- the page is split

pub index_mut-requires : goal.index_mut-requires
index_mut-requires g c = omega (arith, c.requires.there, ap length c.in_ok-reserve.ensures.items, ap length c.self.view_is, c.reserve.new.self.ok.0)

pub split-requires : goal.split-requires
split-requires g c =
    let pages = c.reserve.new.self.items in
    let view = c.in_ok-reserve.ensures.items ∙ c.self.view_is in
    let within : c.args.number < length pages = omega (arith, c.requires.there, ap length view) in
    let here = page_here pages c.args.number c.index_mut.result.now within c.index_mut.ensures.value in
    ap length (sym here) ∙ ap (λ pages. length (page_at pages c.args.number)) view ∙ c.requires.full

pub returns-in_err-following-clause-err : goal.returns-in_err-following-clause-err
returns-in_err-following-clause-err g c =
    let pages = c.reserve.new.self.items in
    let same = ap (set pages c.args.number) (c.in_err-following.ensures.err ∙ c.index_mut.ensures.value) ∙ set-get_or pages c.args.number c.index_mut.result.now in
    on_err c.from_residual-in_err-following.result (same ∙ c.in_ok-reserve.ensures.items ∙ c.self.view_is)

pub returns-in_err-following-clause-fits : goal.returns-in_err-following-clause-fits
returns-in_err-following-clause-fits g c = omega (arith, ap length c.self.view_is, c.self.inside.pages.ok.0, c.self.inside.pages.ok.1)

pub invariant_of-self-in_err-following : goal.invariant_of-self-in_err-following
invariant_of-self-in_err-following g c =
    let pages = c.reserve.new.self.items in
    let same = ap (set pages c.args.number) (c.in_err-following.ensures.err ∙ c.index_mut.ensures.value) ∙ set-get_or pages c.args.number c.index_mut.result.now in
    subst (AreSlots g.K.Key.cmp) (sym (same ∙ c.in_ok-reserve.ensures.items)) c.self.invariant

-- ---- the new page is inserted, for which there is room

pub overflow_add-number : goal.overflow_add-number
overflow_add-number g c = omega (arith, c.requires.there, ap length c.self.view_is, c.self.inside.pages.ok.0, c.self.inside.pages.ok.1)

pub insert-requires : goal.insert-requires
insert-requires g c = omega (arith, c.requires.there, ap length c.in_ok-reserve.ensures.items, ap length c.self.view_is, c.reserve.new.self.ok.0)

pub returns-in_err-insert-clause-fits : goal.returns-in_err-insert-clause-fits
returns-in_err-insert-clause-fits g c = omega (arith, ap length c.self.view_is, c.self.inside.pages.ok.0, c.self.inside.pages.ok.1)

pub returns-in_err-insert-clause-err : goal.returns-in_err-insert-clause-err
returns-in_err-insert-clause-err g c = absurd (omega (arith, c.in_err-insert.ensures.full, c.in_ok-reserve.ensures.ok))

pub invariant_of-self-in_err-insert : goal.invariant_of-self-in_err-insert
invariant_of-self-in_err-insert g c = absurd (omega (arith, c.in_err-insert.ensures.full, c.in_ok-reserve.ensures.ok))

pub returns-clause-fits : goal.returns-clause-fits
returns-clause-fits g c = omega (arith, ap length c.self.view_is, c.self.inside.pages.ok.0, c.self.inside.pages.ok.1)

pub returns-clause-ok : goal.returns-clause-ok
returns-clause-ok g c =
    let pages = c.reserve.new.self.items in
    let view = c.in_ok-reserve.ensures.items ∙ c.self.view_is in
    let within : c.args.number < length pages = omega (arith, c.requires.there, ap length view) in
    let here = page_here pages c.args.number c.index_mut.result.now within c.index_mut.ensures.value in
    c.in_ok-insert.ensures.items
    ∙ split_seen pages c.args.number c.split.new.self c.in_ok-following.following within (c.in_ok-following.ensures.front ∙ ap (take 128) (sym here)) (c.in_ok-following.ensures.back ∙ ap (drop 128) (sym here))
    ∙ ap (with_page_split c.args.number) view

pub invariant_of-self-2 : goal.invariant_of-self-2
invariant_of-self-2 g c =
    subst (AreSlots g.K.Key.cmp) (sym (returns-clause-ok g c)) (split_whole g.K.Key.cmp c.args.self.now c.args.number c.requires.there c.requires.full (subst (AreSlots g.K.Key.cmp) c.self.view_is c.self.invariant))

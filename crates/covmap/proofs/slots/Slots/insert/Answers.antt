use Rattle.std.proofs.Common.{◌≡◌, ◌∙◌, ap, length, set, sym, subst, arith, None}
use Rattle.std.specs.Prelude.{OnErr, OnOk}
use Rattle.std.specs.List.{insert}
use Rattle.covmap.specs.Slots.{AreSlots, page_at}
use Rattle.covmap.proofs.PageParts.{insert_whole, page_here}
use Rattle.covmap.proofs.slots.Slots.insert.Goals as goal

pub invariant_of-self : goal.invariant_of-self
invariant_of-self g c =
    let items = c.self.inside.pages.items in
    let number = c.args.place.page in
    let page = c.insert.new.self in
    let here = ap (λ pages. page_at pages number) (sym c.self.view_is) ∙ page_here items number c.index_mut.result.now (omega (arith, c.requires.there, ap length c.self.view_is)) c.index_mut.ensures.value in
    subst (λ pages. AreSlots g.K.Key.cmp (set pages number page)) (sym c.self.view_is)
    (insert_whole g.K.Key.total c.args.self.now number c.args.place.index c.args.key page c.insert.result (subst (AreSlots g.K.Key.cmp) c.self.view_is c.self.invariant) c.requires.gap c.requires.there c.requires.room
    (subst (λ was. OnOk c.insert.result (page ≡ insert was c.args.place.index (c.args.key, None))) (sym here) c.insert.ensures.ok)
    (subst (λ was. OnErr c.insert.result (page ≡ was)) (sym here) c.insert.ensures.err))

use Rattle.std.proofs.Common.{◌∙◌, ap, length, set, sym, subst, arith}
use Rattle.covmap.specs.Staged.{column_of, with_column}
use Rattle.covmap.specs.Slots.{AreSlots, page_at}
use Rattle.covmap.proofs.PageParts.{page_here}
use Rattle.covmap.proofs.MapCommits.{page_whole}
use Rattle.covmap.proofs.slots.Slots.write.Goals as goal

pub invariant_of-self : goal.invariant_of-self
invariant_of-self g c =
    let pages = c.self.inside.pages.items in
    let number = c.args.place.page in
    let here = page_here pages number c.index_mut.result.now (omega (arith, c.requires.page, ap length c.self.view_is)) c.index_mut.ensures.value in
    subst (λ page. AreSlots g.K.Key.cmp (set pages number page)) (sym (c.write.ensures ∙ ap (λ page. with_column page (set (column_of page) c.args.place.index c.args.value)) (sym here)))
    (page_whole g.K.Key.cmp pages number (set (column_of (page_at pages number)) c.args.place.index c.args.value) c.self.invariant)

use Rattle.std.proofs.Common.{◌∙◌, ap, length, set, sym, subst, arith}
use Rattle.covmap.specs.Staged.{with_column}
use Rattle.covmap.specs.Slots.{AreSlots}
use Rattle.covmap.proofs.PageParts.{page_here}
use Rattle.covmap.proofs.MapCommits.{page_whole}
use Rattle.covmap.proofs.slots.Slots.fill.Goals as goal

pub invariant_of-self : goal.invariant_of-self
invariant_of-self g c =
    let pages = c.self.inside.pages.items in
    let here = page_here pages c.args.number c.index_mut.result.now (omega (arith, c.requires.there, ap length c.self.view_is)) c.index_mut.ensures.value in
    subst (λ page. AreSlots g.K.Key.cmp (set pages c.args.number page)) (sym (c.fill.ensures ∙ ap (λ page. with_column page c.args.column.items) (sym here)))
    (page_whole g.K.Key.cmp pages c.args.number c.args.column.items c.self.invariant)

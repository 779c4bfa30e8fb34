use Rattle.std.proofs.Common.{◌∙◌, ◌++◌, ◌∷◌, [], ap, sym, subst}
use Rattle.covmap.specs.Slots.{AreSlots}
use Rattle.covmap.proofs.SlotWrites.{push_whole}
use Rattle.covmap.proofs.slots.Slots.push_page.Goals as goal

pub invariant_of-self-2 : goal.invariant_of-self-2
invariant_of-self-2 g c =
    let seen = c.in_ok-push.ensures.ok ∙ ap (λ pages. pages ++ c.in_ok-page.page ∷ []) c.self.view_is ∙ ap (λ page. c.args.self.now ++ page ∷ []) c.in_ok-page.ensures in
    subst (AreSlots g.K.Key.cmp) (sym seen) (push_whole g.K.Key.total c.args.self.now c.args.key (subst (AreSlots g.K.Key.cmp) c.self.view_is c.self.invariant) c.requires)

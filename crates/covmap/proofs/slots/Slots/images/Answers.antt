use Rattle.std.proofs.Common.{◌∙◌, ap, map, sym, subst}
use Rattle.covmap.specs.Images.{page_image}
use Rattle.covmap.specs.Slots.{AreSlots}
use Rattle.covmap.proofs.Images.{whole_images}
use Rattle.covmap.proofs.slots.Slots.images.Goals as goal

pub invariant_of-result : goal.invariant_of-result
invariant_of-result g c =
    let image = g.W.Image.image in
    let pages = c.self.inside.pages.items in
    subst (AreSlots g.K.Key.cmp) (sym (c.in_ok-pages.ensures ∙ ap (map (page_image image)) c.deref.ensures.value)) (whole_images image g.K.Key.cmp pages c.self.invariant)

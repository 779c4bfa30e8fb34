use Rattle.std.proofs.Common.{◌∙◌, ap, map}
use Rattle.std.specs.Prelude.{option_map}
use Rattle.covmap.specs.Images.{page_image}
use Rattle.covmap.specs.Slots.{beside}
use Rattle.covmap.proofs.Images.{beside_image}
use Rattle.covmap.proofs.slots.page.Page.image.Goals as goal

pub returns : goal.returns
returns g c =
    let image = g.W.Image.image in
    let keys = c.self.inside.keys.items in
    let values = c.self.inside.values.items in
    ap (λ keys. beside keys c.in_ok-values.values.items) (c.in_ok-keys.ensures ∙ c.deref.ensures.value)
    ∙ ap (beside keys) (c.in_ok-values.ensures ∙ ap (map (option_map image)) c.deref-2.ensures.value)
    ∙ beside_image image keys values
    ∙ ap (page_image image) c.self.view_is

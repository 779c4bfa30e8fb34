use Rattle.std.proofs.Common.{◌∙◌, ap, sym}
use Rattle.std.specs.Prelude.{option_map, slice_get}
use Rattle.covmap.proofs.PageParts.{beside_key}
use Rattle.covmap.proofs.SlotSearch.{item_at}
use Rattle.covmap.proofs.slots.page.Page.key.Goals as goal

pub returns : goal.returns
returns g c =
    item_at c.deref.result.now c.args.index c.get.result c.get.ensures.lookup
    ∙ ap (λ keys. slice_get keys c.args.index) c.deref.ensures.value
    ∙ sym (beside_key c.self.inside.keys.items c.self.inside.values.items c.args.index)
    ∙ ap (λ slots. option_map (λ slot. slot.0) (slice_get slots c.args.index)) c.self.view_is

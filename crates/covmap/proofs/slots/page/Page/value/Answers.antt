use Rattle.std.proofs.Common.{◌∙◌, None, Some, ap, sym}
use Rattle.std.specs.Prelude.{option_map, slice_get}
use Rattle.covmap.specs.Slots.{value_in}
use Rattle.covmap.proofs.PageParts.{beside_value}
use Rattle.covmap.proofs.SlotSearch.{item_at}
use Rattle.covmap.proofs.slots.page.Page.value.Goals as goal

pub returns-in-Some : goal.returns-in-Some
returns-in-Some g c =
    c.copy_of.ensures
    ∙ ap value_in (item_at c.deref.result.now c.args.index (Some c.in-Some.value) c.in-Some.ensures.lookup ∙ ap (λ values. slice_get values c.args.index) c.deref.ensures.value)
    ∙ sym (beside_value c.self.inside.keys.items c.self.inside.values.items c.args.index c.self.invariant)
    ∙ ap (λ slots. value_in (option_map (λ slot. slot.1) (slice_get slots c.args.index))) c.self.view_is

pub returns-in-None : goal.returns-in-None
returns-in-None g c =
    ap value_in (item_at c.deref.result.now c.args.index None c.in-None.ensures.lookup ∙ ap (λ values. slice_get values c.args.index) c.deref.ensures.value)
    ∙ sym (beside_value c.self.inside.keys.items c.self.inside.values.items c.args.index c.self.invariant)
    ∙ ap (λ slots. value_in (option_map (λ slot. slot.1) (slice_get slots c.args.index))) c.self.view_is

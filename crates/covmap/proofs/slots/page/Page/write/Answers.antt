use Rattle.std.proofs.Common.{◌≡◌, ◌∙◌, ap, sym, set, true, arith}
use Rattle.std.proofs.Math.ListN.{length-set}
use Rattle.std.specs.Prelude.{option_map, slice_get}
use Rattle.std.specs.Option.{is_some}
use Rattle.covmap.specs.Slots.{value_in}
use Rattle.covmap.specs.Staged.{column_of, with_column}
use Rattle.covmap.proofs.PageParts.{beside_set, beside_value, value_within}
use Rattle.covmap.proofs.slots.page.Page.write.Goals as goal

pub index_mut-requires : goal.index_mut-requires
index_mut-requires g c =
    let values = c.self.inside.values in
    let there : is_some (value_in (slice_get values.items c.args.index)) ≡ true =
    ap is_some (sym (beside_value c.self.inside.keys.items values.items c.args.index c.self.invariant) ∙ ap (λ slots. value_in (option_map (λ slot. slot.1) (slice_get slots c.args.index))) c.self.view_is) ∙ c.requires in
    omega (arith, value_within values.items c.args.index there, values.ok.0)

pub invariant_of-self : goal.invariant_of-self
invariant_of-self g c = omega (arith, c.self.invariant, length-set c.self.inside.values.items c.args.index c.args.value)

pub returns : goal.returns
returns g c =
    let keys = c.self.inside.keys.items in
    let values = c.self.inside.values.items in
    let there : is_some (value_in (slice_get values c.args.index)) ≡ true =
    ap is_some (sym (beside_value keys values c.args.index c.self.invariant) ∙ ap (λ slots. value_in (option_map (λ slot. slot.1) (slice_get slots c.args.index))) c.self.view_is) ∙ c.requires in
    beside_set keys values c.args.index c.args.value (value_within values c.args.index there) c.self.invariant
    ∙ ap (λ slots. with_column slots (set (column_of slots) c.args.index c.args.value)) c.self.view_is

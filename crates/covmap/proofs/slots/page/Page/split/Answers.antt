use Rattle.std.proofs.Common.{◌∙◌, Option, ap, drop, length, map, sym, take, arith}
use Rattle.covmap.specs.Slots.{beside}
use Rattle.covmap.proofs.PageParts.{beside_keys, beside_length, beside_take, drop_length}
use Rattle.covmap.proofs.slots.page.Page.split.Goals as goal

pub split_off-requires : goal.split_off-requires
split_off-requires g c =
    omega (arith, c.requires, ap length c.self.view_is, beside_length c.self.inside.keys.items c.self.inside.values.items, c.self.inside.keys.ok.0)

pub returns-clause-front : goal.returns-clause-front
returns-clause-front g c =
    ap (λ keys. beside keys c.truncate.new.self.items) c.in_ok-keys.ensures.items
    ∙ ap (beside (take 128 c.self.inside.keys.items)) c.truncate.ensures.items
    ∙ beside_take c.self.inside.keys.items c.self.inside.values.items 128
    ∙ ap (take 128) c.self.view_is

pub invariant_of-result : goal.invariant_of-result
invariant_of-result g c =
    let keys = c.self.inside.keys.items in
    omega (arith, c.in_ok-values.ensures.fits, ap length c.self.view_is, beside_length keys c.self.inside.values.items, ap length c.in_ok-keys.ensures.tail, drop_length 128 keys)

pub returns-clause-back : goal.returns-clause-back
returns-clause-back g c =
    let keys = c.self.inside.keys.items in
    let values = c.in_ok-values.values.items in
    let key = λ (slot : g.row.K.Denot × Option g.row.V.Denot). slot.0 in
    ap (λ keys. beside keys values) c.in_ok-keys.ensures.tail
    ∙ ap (λ keys. beside (drop 128 keys) values) (sym (ap (map key) (sym c.self.view_is) ∙ beside_keys keys c.self.inside.values.items))
    ∙ c.in_ok-values.ensures.values

use Rattle.std.proofs.Common.{◌∙◌, [], Option, ap, drop, length, map, sym, arith}
use Rattle.std.proofs.lemmas.Result.{IfOk-weaker}
use Rattle.covmap.specs.Slots.{beside}
use Rattle.covmap.proofs.PageParts.{beside_drop, beside_drop_all, beside_keys, beside_length, drop_length}
use Rattle.covmap.proofs.slots.page.Page.values_from.Goals as goal

pub returns-then-len-start-clause-values : goal.returns-then-len-start-clause-values
returns-then-len-start-clause-values g c =
    let keys = c.self.inside.keys.items in
    let values = c.self.inside.values.items in
    let start = c.args.start in
    let key = λ (slot : g.row.K.Denot × Option g.row.V.Denot). slot.0 in
    ap (beside (drop start (map key c.args.self.now))) c.new.ensures.items
    ∙ ap (λ keys. beside (drop start keys) []) (ap (map key) (sym c.self.view_is) ∙ beside_keys keys values)
    ∙ beside_drop_all keys values start (omega (arith, c.if-len-start.true, c.len.ensures, c.self.inside.values.ok.0))
    ∙ ap (drop start) c.self.view_is

pub returns-then-len-start-clause-fits : goal.returns-then-len-start-clause-fits
returns-then-len-start-clause-fits g c = omega (arith, ap length c.new.ensures.items)

pub returns-clause-values : goal.returns-clause-values
returns-clause-values g c =
    let keys = c.self.inside.keys.items in
    let values = c.self.inside.values.items in
    let start = c.args.start in
    let key = λ (slot : g.row.K.Denot × Option g.row.V.Denot). slot.0 in
    IfOk-weaker c.copies.result _ _ (λ copied e.
    ap (beside (drop start (map key c.args.self.now))) (e ∙ c.split_at.ensures.back ∙ ap (drop start) c.deref.ensures.value)
    ∙ ap (λ keys. beside (drop start keys) (drop start values)) (ap (map key) (sym c.self.view_is) ∙ beside_keys keys values)
    ∙ beside_drop keys values start
    ∙ ap (drop start) c.self.view_is) c.copies.ensures

pub returns-clause-fits : goal.returns-clause-fits
returns-clause-fits g c =
    let keys = c.self.inside.keys.items in
    let values = c.self.inside.values.items in
    let start = c.args.start in
    IfOk-weaker c.copies.result _ _ (λ copied e.
    omega (arith, ap length (e ∙ c.split_at.ensures.back ∙ ap (drop start) c.deref.ensures.value), drop_length start values, c.self.invariant, ap length c.self.view_is, beside_length keys values)) c.copies.ensures

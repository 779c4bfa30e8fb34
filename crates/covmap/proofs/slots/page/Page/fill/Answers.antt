use Rattle.std.proofs.Common.{◌∙◌, ap, sym, length, arith}
use Rattle.covmap.specs.Staged.{with_column}
use Rattle.covmap.proofs.PageParts.{beside_given, beside_length}
use Rattle.covmap.proofs.slots.page.Page.fill.Goals as goal

pub invariant_of-self : goal.invariant_of-self
invariant_of-self g c =
    omega (arith, c.requires, ap length c.self.view_is, beside_length c.self.inside.keys.items c.self.inside.values.items)

pub returns : goal.returns
returns g c =
    let keys = c.self.inside.keys.items in
    let values = c.self.inside.values.items in
    let long = c.requires ∙ sym (ap length c.self.view_is) ∙ beside_length keys values in
    beside_given keys values c.args.column.items long ∙ ap (λ slots. with_column slots c.args.column.items) c.self.view_is

use Rattle.std.proofs.Common.{◌∙◌, ◌-◌, ◌++◌, List, Option, ap, length}
use Rattle.covmap.specs.Slots.{empty}
use Rattle.covmap.specs.Staged.{column_of}
use Rattle.covmap.proofs.PageParts.{beside_column}
use Rattle.covmap.proofs.slots.page.Page.column.Goals as goal

pub returns : goal.returns
returns g c =
    let keys = c.self.inside.keys in
    let values = c.self.inside.values.items in
    c.in_ok-fill_up.ensures
    ∙ ap (λ (column : List (Option g.row.V.Denot)). column ++ empty (c.len.result - length column)) (c.in_ok-column.ensures ∙ c.deref.ensures.value)
    ∙ ap (λ len. values ++ empty (len - length values)) (c.len.ensures ∙ keys.ok.0)
    ∙ beside_column keys.items values c.self.invariant
    ∙ ap column_of c.self.view_is

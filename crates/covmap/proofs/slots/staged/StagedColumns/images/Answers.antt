use Rattle.std.proofs.Common.{◌∙◌, ap, map, sym, subst}
use Rattle.std.proofs.lemmas.Simd.{map-map}
use Rattle.covmap.specs.Images.{column_image}
use Rattle.covmap.specs.Staged.{AreAscending}
use Rattle.covmap.proofs.Images.{ascending_columns}
use Rattle.covmap.proofs.slots.staged.StagedColumns.images.Goals as goal

pub returns : goal.returns
returns g c =
    let image = g.W.Image.image in
    let columns = c.self.inside.columns.items in
    c.in_ok-columns.ensures
    ∙ ap (map (λ column. column_image image (column.0, column.1.items))) c.deref.ensures.value
    ∙ sym (map-map (column_image image) (λ column. (column.0, column.1.items)) columns)
    ∙ ap (map (column_image image)) c.self.view_is

pub invariant_of-result : goal.invariant_of-result
invariant_of-result g c = subst AreAscending (sym (returns g c)) (ascending_columns g.W.Image.image c.args.self.now (subst AreAscending c.self.view_is c.self.invariant))

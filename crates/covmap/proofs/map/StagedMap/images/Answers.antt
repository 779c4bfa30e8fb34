use Rattle.std.proofs.Common.{◌∙◌, ap, map, sym, subst}
use Rattle.covmap.specs.Images.{page_image}
use Rattle.covmap.specs.MapData.{MapData}
use Rattle.covmap.specs.Slots.{filled, slots_of}
use Rattle.covmap.specs.Staged.{AreColumnsOf, staged_of}
use Rattle.covmap.proofs.Images.{columns_of_images, entries_images, staged_images}
use Rattle.covmap.proofs.map.StagedMap.images.Goals as goal

pub invariant_of-result : goal.invariant_of-result
invariant_of-result g c =
    let image = g.W.Image.image in
    let columns = c.self.inside.staged in
    subst (λ pages. AreColumnsOf pages c.in_ok-staged.staged) (sym c.in_ok-slots.ensures)
    (subst (AreColumnsOf (map (page_image image) c.self.inside.slots)) (sym c.in_ok-staged.ensures) (columns_of_images image c.self.inside.slots columns c.self.invariant))

pub returns-clause-committed : goal.returns-clause-committed
returns-clause-committed g c =
    let image = g.W.Image.image in
    ap (λ pages. filled (slots_of pages)) c.in_ok-slots.ensures
    ∙ entries_images image c.self.inside.slots
    ∙ ap (λ (entries : MapData g.row.K.Denot g.row.V.Denot). map (λ pair. (pair.0, image pair.1)) entries.committed) c.self.view_is

pub returns-clause-staged : goal.returns-clause-staged
returns-clause-staged g c =
    let image = g.W.Image.image in
    let pages = c.self.inside.slots in
    let columns = c.self.inside.staged in
    ap (λ pages. filled (slots_of (staged_of pages c.in_ok-staged.staged))) c.in_ok-slots.ensures
    ∙ ap (λ columns. filled (slots_of (staged_of (map (page_image image) pages) columns))) c.in_ok-staged.ensures
    ∙ ap (λ pages. filled (slots_of pages)) (staged_images image 0 pages columns)
    ∙ entries_images image (staged_of pages columns)
    ∙ ap (λ (entries : MapData g.row.K.Denot g.row.V.Denot). map (λ pair. (pair.0, image pair.1)) entries.staged) c.self.view_is

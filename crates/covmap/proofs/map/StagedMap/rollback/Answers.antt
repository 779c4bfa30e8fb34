use Rattle.std.proofs.Common.{◌∙◌, ap}
use Rattle.covmap.specs.Staged.{staged_of}
use Rattle.covmap.specs.MapData.{MapData}
use Rattle.covmap.specs.Slots.{filled, slots_of}
use Rattle.covmap.proofs.StagedPages.{nothing_staged}
use Rattle.covmap.proofs.map.StagedMap.rollback.Goals as goal

pub returns-clause-staged : goal.returns-clause-staged
returns-clause-staged g c =
    let slots = c.self.inside.slots in
    ap (λ columns. filled (slots_of (staged_of slots columns))) c.clear.ensures
    ∙ ap (λ pages. filled (slots_of pages)) (nothing_staged 0 slots)
    ∙ ap (λ (entries : MapData g.row.K.Denot g.row.V.Denot). entries.committed) c.self.view_is

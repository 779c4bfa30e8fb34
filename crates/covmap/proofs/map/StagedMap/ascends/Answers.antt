use Rattle.std.proofs.Common.{subst}
use Rattle.covmap.specs.MapData.{MapData}
use Rattle.covmap.specs.Puts.{ArePairs}
use Rattle.covmap.specs.Slots.{slots_of}
use Rattle.covmap.proofs.Filled.{filled_pairs}
use Rattle.covmap.proofs.map.StagedMap.ascends.Goals as goal

pub returns : goal.returns
returns g c =
    subst (λ (entries : MapData g.row.K.Denot g.row.V.Denot). ArePairs g.K.Key.cmp entries.committed) c.self.view_is
    (filled_pairs g.K.Key.cmp (slots_of c.self.inside.slots) c.are_whole.ensures.ascending)

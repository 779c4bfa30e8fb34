use Rattle.std.proofs.Common.{◌∙◌, ap, sym, subst}
use Rattle.covmap.specs.MapData.{MapData}
use Rattle.covmap.specs.Puts.{ArePairs, value_of}
use Rattle.covmap.specs.Slots.{slots_of}
use Rattle.covmap.proofs.Filled.{filled_pairs}
use Rattle.covmap.proofs.MapAssigned.{committed_absent, committed_found}
use Rattle.covmap.proofs.map.StagedMap.lookup_at.Goals as goal

pub returns-in-Ok-clause-value : goal.returns-in-Ok-clause-value
returns-in-Ok-clause-value g c =
    let named = g.Q.Query.named c.args.query in
    let place = c.in-Ok.place in
    c.value_at.ensures
    ∙ committed_found g.K.Key.total named c.self.inside.slots place.page place.index c.in-Ok.ensures.whole c.in-Ok.ensures.found
    ∙ ap (λ (entries : MapData g.row.K.Denot g.row.V.Denot). value_of g.K.Key.cmp named entries.committed) c.self.view_is

pub returns-in-Err-clause-value : goal.returns-in-Err-clause-value
returns-in-Err-clause-value g c =
    let named = g.Q.Query.named c.args.query in
    let place = c.in-Err.place in
    sym (committed_absent g.K.Key.cmp named c.self.inside.slots place.page place.index c.in-Err.ensures.absent)
    ∙ ap (λ (entries : MapData g.row.K.Denot g.row.V.Denot). value_of g.K.Key.cmp named entries.committed) c.self.view_is

pub returns-in-Ok-clause-whole : goal.returns-in-Ok-clause-whole
returns-in-Ok-clause-whole g c =
    subst (λ (entries : MapData g.row.K.Denot g.row.V.Denot). ArePairs g.K.Key.cmp entries.committed) c.self.view_is
    (filled_pairs g.K.Key.cmp (slots_of c.self.inside.slots) c.in-Ok.ensures.whole.ascending)

pub returns-in-Err-clause-whole : goal.returns-in-Err-clause-whole
returns-in-Err-clause-whole g c =
    subst (λ (entries : MapData g.row.K.Denot g.row.V.Denot). ArePairs g.K.Key.cmp entries.committed) c.self.view_is
    (filled_pairs g.K.Key.cmp (slots_of c.self.inside.slots) c.in-Err.ensures.whole.ascending)

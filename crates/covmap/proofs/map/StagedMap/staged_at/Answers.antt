use Rattle.std.proofs.Common.{◌∙◌, ap, sym, subst}
use Rattle.covmap.specs.Query.{query_by_order}
use Rattle.covmap.specs.Staged.{staged_of}
use Rattle.covmap.specs.MapData.{MapData}
use Rattle.covmap.specs.Puts.{ArePairs, value_of}
use Rattle.covmap.specs.Slots.{slots_of}
use Rattle.covmap.proofs.StagedWhole.{staged_whole}
use Rattle.covmap.proofs.Filled.{filled_pairs}
use Rattle.covmap.proofs.MapPlaces.{staged_absent, staged_found}
use Rattle.covmap.proofs.map.StagedMap.staged_at.Goals as goal

pub returns-in-Ok-clause-value : goal.returns-in-Ok-clause-value
returns-in-Ok-clause-value g c =
    let named = g.Q.Query.named c.args.query in
    let place = c.in-Ok.place in
    c.value_at.ensures
    ∙ staged_found (query_by_order g.K.Key.total named) c.self.inside.slots c.self.inside.staged place.page place.index c.in-Ok.ensures.whole c.in-Ok.ensures.found
    ∙ ap (λ (entries : MapData g.row.K.Denot g.row.V.Denot). value_of g.K.Key.cmp named entries.staged) c.self.view_is

pub returns-in-Err-clause-value : goal.returns-in-Err-clause-value
returns-in-Err-clause-value g c =
    let named = g.Q.Query.named c.args.query in
    let place = c.in-Err.place in
    sym (staged_absent (λ (key : g.row.K.Denot). g.K.Key.cmp key named) c.self.inside.slots c.self.inside.staged place.page place.index c.in-Err.ensures.absent)
    ∙ ap (λ (entries : MapData g.row.K.Denot g.row.V.Denot). value_of g.K.Key.cmp named entries.staged) c.self.view_is

pub returns-in-Ok-clause-whole : goal.returns-in-Ok-clause-whole
returns-in-Ok-clause-whole g c =
    let slots = c.self.inside.slots in
    let staged = c.self.inside.staged in
    subst (λ (entries : MapData g.row.K.Denot g.row.V.Denot). ArePairs g.K.Key.cmp entries.staged) c.self.view_is
    (filled_pairs g.K.Key.cmp (slots_of (staged_of slots staged)) (staged_whole g.K.Key.cmp slots staged c.in-Ok.ensures.whole).ascending)

pub returns-in-Err-clause-whole : goal.returns-in-Err-clause-whole
returns-in-Err-clause-whole g c =
    let slots = c.self.inside.slots in
    let staged = c.self.inside.staged in
    subst (λ (entries : MapData g.row.K.Denot g.row.V.Denot). ArePairs g.K.Key.cmp entries.staged) c.self.view_is
    (filled_pairs g.K.Key.cmp (slots_of (staged_of slots staged)) (staged_whole g.K.Key.cmp slots staged c.in-Err.ensures.whole).ascending)

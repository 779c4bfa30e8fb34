use Rattle.std.proofs.Common.{◌∙◌, ap, sym, subst}
use Rattle.std.proofs.lemmas.Result.{IfOk-weaker}
use Rattle.covmap.specs.Query.{query_by_order}
use Rattle.covmap.specs.Staged.{staged_of}
use Rattle.covmap.specs.MapData.{MapData}
use Rattle.covmap.specs.Puts.{ArePairs, put, value_of}
use Rattle.covmap.specs.Slots.{filled, slots_of}
use Rattle.covmap.proofs.StagedWhole.{staged_whole}
use Rattle.covmap.proofs.Filled.{filled_pairs}
use Rattle.covmap.proofs.MapPlaces.{staged_found, staged_put, place_within}
use Rattle.covmap.proofs.map.StagedMap.stage_sum.Goals as goal

pub add-requires-clause-slot : goal.add-requires-clause-slot
add-requires-clause-slot g c =
    let place = c.in_ok-place.place in
    place_within (λ (key : g.row.K.Denot). g.K.Key.cmp key (g.Q.Query.named c.args.query)) c.make_slot.new.slots place.page place.index c.in_ok-place.ensures.place

pub add-requires-clause-fits : goal.add-requires-clause-fits
add-requires-clause-fits g c =
    let named = g.Q.Query.named c.args.query in
    let place = c.in_ok-place.place in
    let was = staged_found (query_by_order g.K.Key.total named) c.make_slot.new.slots c.make_slot.new.staged place.page place.index c.are_whole-2.ensures c.in_ok-place.ensures.place
    ∙ ap (value_of g.K.Key.cmp named) c.in_ok-place.ensures.staged
    ∙ ap (λ (entries : MapData g.row.K.Denot g.row.V.Denot). value_of g.K.Key.cmp named entries.staged) c.self.view_is in
    subst (g.M.Addend.fits c.args.addend) (sym was) c.requires

pub returns-clause-before : goal.returns-clause-before
returns-clause-before g c =
    let named = g.Q.Query.named c.args.query in
    let place = c.in_ok-place.place in
    let was = staged_found (query_by_order g.K.Key.total named) c.make_slot.new.slots c.make_slot.new.staged place.page place.index c.are_whole-2.ensures c.in_ok-place.ensures.place
    ∙ ap (value_of g.K.Key.cmp named) c.in_ok-place.ensures.staged
    ∙ ap (λ (entries : MapData g.row.K.Denot g.row.V.Denot). value_of g.K.Key.cmp named entries.staged) c.self.view_is in
    IfOk-weaker c.add.result _ _ (λ added e. e ∙ was) c.add.ensures.before

pub returns-clause-ok : goal.returns-clause-ok
returns-clause-ok g c =
    let named = g.Q.Query.named c.args.query in
    let place = c.in_ok-place.place in
    IfOk-weaker c.add.result _ _ (λ added e.
    ap (λ pages. filled (slots_of pages)) e
    ∙ staged_put g.K.Key.total g.K.Key.exact named added.after c.make_slot.new.slots c.make_slot.new.staged place.page place.index c.are_whole-2.ensures c.in_ok-place.ensures.place
    ∙ ap (put g.K.Key.cmp named added.after) c.in_ok-place.ensures.staged
    ∙ ap (λ (entries : MapData g.row.K.Denot g.row.V.Denot). put g.K.Key.cmp named added.after entries.staged) c.self.view_is) c.add.ensures.ok

pub returns-clause-staged : goal.returns-clause-staged
returns-clause-staged g c =
    let slots = c.self.inside.slots in
    let staged = c.self.inside.staged in
    subst (λ (entries : MapData g.row.K.Denot g.row.V.Denot). ArePairs g.K.Key.cmp entries.staged) c.self.view_is
    (filled_pairs g.K.Key.cmp (slots_of (staged_of slots staged)) (staged_whole g.K.Key.cmp slots staged c.are_whole.ensures).ascending)

pub returns-in_err-place-clause-staged : goal.returns-in_err-place-clause-staged
returns-in_err-place-clause-staged g c =
    let slots = c.self.inside.slots in
    let staged = c.self.inside.staged in
    subst (λ (entries : MapData g.row.K.Denot g.row.V.Denot). ArePairs g.K.Key.cmp entries.staged) c.self.view_is
    (filled_pairs g.K.Key.cmp (slots_of (staged_of slots staged)) (staged_whole g.K.Key.cmp slots staged c.are_whole.ensures).ascending)

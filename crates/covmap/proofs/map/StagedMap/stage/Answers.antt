use Rattle.std.proofs.Common.{◌∙◌, ap, arith}
use Rattle.covmap.specs.MapData.{MapData}
use Rattle.covmap.specs.Puts.{put}
use Rattle.covmap.specs.Slots.{filled, slots_of}
use Rattle.covmap.proofs.MapPlaces.{staged_put, place_within}
use Rattle.covmap.proofs.SlotAfter.{number_within}
use Rattle.covmap.proofs.SlotWrites.{on_ok_more}
use Rattle.covmap.proofs.map.StagedMap.stage.Goals as goal

pub returns-clause-ok : goal.returns-clause-ok
returns-clause-ok g c =
    let named = g.Q.Query.named c.args.query in
    let place = c.in_ok-place.place in
    on_ok_more c.put.result (λ e.
    ap (λ pages. filled (slots_of pages)) e
    ∙ staged_put g.K.Key.total g.K.Key.exact named c.args.value c.make_slot.new.slots c.make_slot.new.staged place.page place.index c.are_whole.ensures c.in_ok-place.ensures.place
    ∙ ap (put g.K.Key.cmp named c.args.value) c.in_ok-place.ensures.staged
    ∙ ap (λ (entries : MapData g.row.K.Denot g.row.V.Denot). put g.K.Key.cmp named c.args.value entries.staged) c.self.view_is) c.put.ensures.ok

pub make_slot-requires : goal.make_slot-requires
make_slot-requires g c = c.self.invariant

pub put-requires-clause-columns : goal.put-requires-clause-columns
put-requires-clause-columns g c = c.in_ok-place.ensures.columns

pub put-requires-clause-slot : goal.put-requires-clause-slot
put-requires-clause-slot g c =
    let place = c.in_ok-place.place in
    place_within (λ (key : g.row.K.Denot). g.K.Key.cmp key (g.Q.Query.named c.args.query)) c.make_slot.new.slots place.page place.index c.in_ok-place.ensures.place

pub put-requires-clause-page : goal.put-requires-clause-page
put-requires-clause-page g c =
    let place = c.in_ok-place.place in
    let within = place_within (λ (key : g.row.K.Denot). g.K.Key.cmp key (g.Q.Query.named c.args.query)) c.make_slot.new.slots place.page place.index c.in_ok-place.ensures.place in
    number_within c.make_slot.new.slots place.page (omega (arith, within))

pub returns-clause-committed : goal.returns-clause-committed
returns-clause-committed g c = c.in_ok-place.ensures.committed ∙ ap (λ (entries : MapData g.row.K.Denot g.row.V.Denot). entries.committed) c.self.view_is

pub returns-in_err-place-clause-committed : goal.returns-in_err-place-clause-committed
returns-in_err-place-clause-committed g c = c.in_err-place.ensures.committed ∙ ap (λ (entries : MapData g.row.K.Denot g.row.V.Denot). entries.committed) c.self.view_is

pub invariant_of-self : goal.invariant_of-self
invariant_of-self g c = c.in_err-place.ensures.columns

pub invariant_of-self-2 : goal.invariant_of-self-2
invariant_of-self-2 g c = c.put.ensures.columns

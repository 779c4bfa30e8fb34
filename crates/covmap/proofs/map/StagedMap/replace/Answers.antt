use Rattle.std.proofs.Common.{◌≡◌, ◌∙◌, None, ap, arith, sym, subst}
use Rattle.std.specs.Option.{is_some}
use Rattle.std.proofs.lemmas.Bool.{false≢true}
use Rattle.covmap.specs.Assigned.{assigned}
use Rattle.covmap.specs.Staged.{AreColumnsOf, staged_of}
use Rattle.covmap.specs.MapData.{MapData}
use Rattle.covmap.specs.Puts.{value_of}
use Rattle.covmap.specs.Slots.{filled, slots_of}
use Rattle.covmap.proofs.StagedPages.{nothing_staged}
use Rattle.covmap.proofs.MapAssigned.{committed_absent, committed_found, slot_assigned}
use Rattle.covmap.proofs.MapPlaces.{place_within}
use Rattle.covmap.proofs.SlotAfter.{number_within}
use Rattle.covmap.proofs.map.StagedMap.replace.Goals as goal

pub returns-in-Ok-clause-committed : goal.returns-in-Ok-clause-committed
returns-in-Ok-clause-committed g c =
    let named = g.Q.Query.named c.args.query in
    let place = c.in-Ok.place in
    ap (λ pages. filled (slots_of pages)) c.write.ensures
    ∙ slot_assigned g.K.Key.total g.K.Key.exact named c.self.inside.slots place.page place.index c.in-Ok.ensures.whole c.in-Ok.ensures.found c.args.value
    ∙ ap (λ (entries : MapData g.row.K.Denot g.row.V.Denot). assigned g.K.Key.cmp named c.args.value entries.committed) c.self.view_is

pub returns-in-Ok-clause-staged : goal.returns-in-Ok-clause-staged
returns-in-Ok-clause-staged g c =
    ap (λ columns. filled (slots_of (staged_of c.write.new.self columns))) c.clear.ensures ∙ ap (λ pages. filled (slots_of pages)) (nothing_staged 0 c.write.new.self)

-- the queried key has a value, so it has a place
pub returns-in_default : goal.returns-in_default
returns-in_default g c =
    let named = g.Q.Query.named c.args.query in
    let place = c.in_default.field-0 in
    let none : value_of g.K.Key.cmp named c.args.self.now.committed ≡ None =
    ap (λ (entries : MapData g.row.K.Denot g.row.V.Denot). value_of g.K.Key.cmp named entries.committed) (sym c.self.view_is)
    ∙ committed_absent g.K.Key.cmp named c.self.inside.slots place.page place.index c.in_default.ensures.absent in
    absurd (false≢true (ap is_some (sym none) ∙ c.requires))

pub write-requires-clause-slot : goal.write-requires-clause-slot
write-requires-clause-slot g c =
    let named = g.Q.Query.named c.args.query in
    let place = c.in-Ok.place in
    ap is_some (committed_found g.K.Key.total named c.self.inside.slots place.page place.index c.in-Ok.ensures.whole c.in-Ok.ensures.found
    ∙ ap (λ (entries : MapData g.row.K.Denot g.row.V.Denot). value_of g.K.Key.cmp named entries.committed) c.self.view_is)
    ∙ c.requires

pub write-requires-clause-page : goal.write-requires-clause-page
write-requires-clause-page g c =
    let place = c.in-Ok.place in
    number_within c.self.inside.slots place.page (omega (arith, place_within (λ (key : g.row.K.Denot). g.K.Key.cmp key (g.Q.Query.named c.args.query)) c.self.inside.slots place.page place.index c.in-Ok.ensures.found))

pub invariant_of-self : goal.invariant_of-self
invariant_of-self g c = subst (AreColumnsOf c.write.new.self) (sym c.clear.ensures) tt

pub invariant_of-self-in_default : goal.invariant_of-self-in_default
invariant_of-self-in_default g c = subst (AreColumnsOf c.self.inside.slots) (sym c.clear.ensures) tt

pub invariant_of-self-in_default-2 : goal.invariant_of-self-in_default-2
invariant_of-self-in_default-2 g c = subst (AreColumnsOf c.self.inside.slots) (sym c.clear.ensures) tt

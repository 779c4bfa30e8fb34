use Rattle.std.proofs.Common.{◌∙◌, ap, sym, subst}
use Rattle.covmap.specs.Staged.{AreColumnsOf, staged_of}
use Rattle.covmap.specs.SlotPlace.{at}
use Rattle.covmap.specs.Slots.{IsPlace, filled, slots_of}
use Rattle.covmap.proofs.StagedGrowth.{columns_widened, staged_made, filled_empty, place_made, room_for}
use Rattle.covmap.proofs.slots.growth.put_at.Goals as goal

pub insert_empty-requires : goal.insert_empty-requires
insert_empty-requires g c = room_for c.args.slots.now c.args.staged.now c.args.place.page c.args.place.index c.requires.columns c.requires.gap.on_page

pub returns-in-Ok-clause-columns : goal.returns-in-Ok-clause-columns
returns-in-Ok-clause-columns g c =
    subst (λ pages. AreColumnsOf pages c.insert_empty.new.self) (sym c.in_ok-insert.ensures.ok)
    (columns_widened c.args.slots.now c.args.staged.now c.insert_empty.new.self c.args.place.page c.args.place.index c.args.key c.requires.there c.requires.gap.on_page c.requires.columns c.in-Ok.ensures.ok)

pub returns-in-Ok-clause-committed : goal.returns-in-Ok-clause-committed
returns-in-Ok-clause-committed g c =
    ap (λ pages. filled (slots_of pages)) c.in_ok-insert.ensures.ok ∙ filled_empty c.args.slots.now c.args.place.page c.args.place.index c.args.key c.requires.there

pub returns-in-Ok-clause-staged : goal.returns-in-Ok-clause-staged
returns-in-Ok-clause-staged g c =
    ap (λ pages. filled (slots_of (staged_of pages c.insert_empty.new.self))) c.in_ok-insert.ensures.ok
    ∙ staged_made c.args.slots.now c.args.staged.now c.insert_empty.new.self c.args.place.page c.args.place.index c.args.key c.requires.there c.requires.columns c.in-Ok.ensures.ok

pub returns-in-Ok-clause-place : goal.returns-in-Ok-clause-place
returns-in-Ok-clause-place g c =
    subst (λ pages. IsPlace (λ other. g.K.Key.cmp other c.args.key) pages (at c.args.place)) (sym c.in_ok-insert.ensures.ok)
    (place_made g.K.Key.total c.args.slots.now c.args.place.page c.args.place.index c.args.key c.requires.there c.requires.gap.on_page)

pub returns-in-Err-clause-committed : goal.returns-in-Err-clause-committed
returns-in-Err-clause-committed g c =
    ap (λ pages. filled (slots_of pages)) c.in_ok-insert.ensures.ok ∙ filled_empty c.args.slots.now c.args.place.page c.args.place.index c.args.key c.requires.there

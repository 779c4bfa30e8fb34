use Rattle.std.proofs.Common.{◌∙◌, ◌^◌, ap, sym, subst}
use Rattle.covmap.specs.Staged.{AreColumnsOf, staged_of}
use Rattle.covmap.specs.Slots.{filled, slots_of}
use Rattle.covmap.proofs.StagedGrowth.{columns_split, staged_cut, long_as, numbers_fit}
use Rattle.covmap.proofs.SlotSplit.{split_slots}
use Rattle.covmap.proofs.slots.growth.split.Goals as goal

pub split-requires-2-clause-numbers : goal.split-requires-2-clause-numbers
split-requires-2-clause-numbers g c = numbers_fit c.args.slots.now c.args.staged.now (2 ^ 64) c.requires.columns c.in_ok-split.ensures.fits

pub split-requires-2-clause-full : goal.split-requires-2-clause-full
split-requires-2-clause-full g c = long_as c.args.slots.now c.args.staged.now c.args.number 256 c.requires.columns c.requires.full

pub returns-in-Ok-clause-columns : goal.returns-in-Ok-clause-columns
returns-in-Ok-clause-columns g c =
    subst (λ pages. AreColumnsOf pages c.split-2.new.self) (sym c.in_ok-split.ensures.ok)
    (columns_split c.args.slots.now c.args.number c.requires.there c.args.staged.now c.split-2.new.self c.requires.full c.requires.columns c.in-Ok.ensures.ok)

pub returns-in-Ok-clause-committed : goal.returns-in-Ok-clause-committed
returns-in-Ok-clause-committed g c = ap (λ pages. filled (slots_of pages)) c.in_ok-split.ensures.ok ∙ ap filled (split_slots c.args.slots.now c.args.number c.requires.there)

pub returns-in-Ok-clause-staged : goal.returns-in-Ok-clause-staged
returns-in-Ok-clause-staged g c =
    ap (λ pages. filled (slots_of (staged_of pages c.split-2.new.self))) c.in_ok-split.ensures.ok
    ∙ staged_cut c.args.slots.now c.args.staged.now c.split-2.new.self c.args.number c.requires.there c.in-Ok.ensures.ok

pub returns-in-Err-clause-committed : goal.returns-in-Err-clause-committed
returns-in-Err-clause-committed g c = ap (λ pages. filled (slots_of pages)) c.in_ok-split.ensures.ok ∙ ap filled (split_slots c.args.slots.now c.args.number c.requires.there)

use Rattle.std.proofs.Common.{refl, sym, subst}
use Rattle.std.specs.Prelude.{IfOk}
use Rattle.covmap.specs.SlotPlace.{at}
use Rattle.covmap.specs.Slots.{IsGap, IsPlace}
use Rattle.covmap.proofs.slots.growth.make_slot.Goals as goal

pub put_slot-requires-clause-columns : goal.put_slot-requires-clause-columns
put_slot-requires-clause-columns g c = c.requires

pub returns-in-Ok-clause-columns : goal.returns-in-Ok-clause-columns
returns-in-Ok-clause-columns g c = c.requires

pub returns-in-Ok-clause-committed : goal.returns-in-Ok-clause-committed
returns-in-Ok-clause-committed g c = refl

pub returns-in-Ok-clause-place : goal.returns-in-Ok-clause-place
returns-in-Ok-clause-place g c = c.in-Ok.ensures.found

pub returns-in_err-key-in-Err-clause-columns : goal.returns-in_err-key-in-Err-clause-columns
returns-in_err-key-in-Err-clause-columns g c = c.requires

pub returns-in_err-key-in-Err-clause-committed : goal.returns-in_err-key-in-Err-clause-committed
returns-in_err-key-in-Err-clause-committed g c = refl

pub returns-in_ok-key-in-Err-clause-columns : goal.returns-in_ok-key-in-Err-clause-columns
returns-in_ok-key-in-Err-clause-columns g c = c.put_slot.ensures.columns

pub returns-in_ok-key-in-Err-clause-committed : goal.returns-in_ok-key-in-Err-clause-committed
returns-in_ok-key-in-Err-clause-committed g c = c.put_slot.ensures.committed

pub returns-in_ok-key-in-Err-clause-staged : goal.returns-in_ok-key-in-Err-clause-staged
returns-in_ok-key-in-Err-clause-staged g c = c.put_slot.ensures.staged

pub returns-in_ok-key-in-Err-clause-place : goal.returns-in_ok-key-in-Err-clause-place
returns-in_ok-key-in-Err-clause-place g c =
    subst (λ (key : g.row.K.Denot). IfOk c.put_slot.result (λ place. IsPlace (λ other. g.K.Key.cmp other key) c.put_slot.new.slots (at place))) c.in_ok-key-in-Err.ensures c.put_slot.ensures.place

pub put_slot-requires-clause-gap : goal.put_slot-requires-clause-gap
put_slot-requires-clause-gap g c =
    subst (λ (key : g.row.K.Denot). IsGap (λ other. g.K.Key.cmp other key) c.args.slots.now (at c.in-Err.place)) (sym c.in_ok-key-in-Err.ensures) c.in-Err.ensures.absent

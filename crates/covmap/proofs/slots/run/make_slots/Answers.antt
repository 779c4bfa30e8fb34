use Rattle.std.proofs.Common.{refl}
use Rattle.covmap.specs.SlotPlace.{at}
use Rattle.covmap.specs.Slots.{page_at}
use Rattle.covmap.proofs.RunPages.{first_gap, first_here}
use Rattle.covmap.proofs.slots.run.make_slots.Goals as goal

pub returns-in-Ok-clause-columns : goal.returns-in-Ok-clause-columns
returns-in-Ok-clause-columns g c = c.requires.columns

pub returns-in-Ok-clause-committed : goal.returns-in-Ok-clause-committed
returns-in-Ok-clause-committed g c = refl

pub returns-in-Ok-clause-staged : goal.returns-in-Ok-clause-staged
returns-in-Ok-clause-staged g c = refl

pub returns-in-Ok-clause-place : goal.returns-in-Ok-clause-place
returns-in-Ok-clause-place g c =
    let place = c.in-Ok.place in
    first_here g.K.Key.cmp g.Q.Query.named c.args.run.now c.index-run-0.result (page_at c.args.slots.now place.page) place.index c.requires.some c.in-Ok.ensures.found

pub make_absent-requires-clause-gap : goal.make_absent-requires-clause-gap
make_absent-requires-clause-gap g c =
    first_gap g.K.Key.cmp g.Q.Query.named c.args.run.now c.index-run-0.result c.args.slots.now (at c.in-Err.place) c.requires.some c.in-Err.ensures.absent

pub returns-in-Err-clause-columns : goal.returns-in-Err-clause-columns
returns-in-Err-clause-columns g c = c.make_absent.ensures.columns

pub returns-in-Err-clause-committed : goal.returns-in-Err-clause-committed
returns-in-Err-clause-committed g c = c.make_absent.ensures.committed

pub returns-in-Err-clause-staged : goal.returns-in-Err-clause-staged
returns-in-Err-clause-staged g c = c.make_absent.ensures.staged

pub returns-in-Err-clause-place : goal.returns-in-Err-clause-place
returns-in-Err-clause-place g c = c.make_absent.ensures.place

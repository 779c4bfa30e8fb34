use Rattle.covmap.proofs.RunPages.{before_run}
use Rattle.covmap.proofs.slots.run.make_absent.Goals as goal

pub put_run-requires-clause-last : goal.put_run-requires-clause-last
put_run-requires-clause-last g c =
    let place = c.args.place in
    before_run g.K.Key.cmp g.Q.Query.named c.args.run.now c.args.slots.now place.page place.index c.requires.some (c.takes.ensures c.if-takes.false) c.requires.gap

pub returns-then-takes-clause-columns : goal.returns-then-takes-clause-columns
returns-then-takes-clause-columns g c = c.make_within.ensures.columns

pub returns-then-takes-clause-committed : goal.returns-then-takes-clause-committed
returns-then-takes-clause-committed g c = c.make_within.ensures.committed

pub returns-then-takes-clause-staged : goal.returns-then-takes-clause-staged
returns-then-takes-clause-staged g c = c.make_within.ensures.staged

pub returns-then-takes-clause-place : goal.returns-then-takes-clause-place
returns-then-takes-clause-place g c = c.make_within.ensures.place

pub returns-clause-columns : goal.returns-clause-columns
returns-clause-columns g c = c.put_run.ensures.columns

pub returns-clause-committed : goal.returns-clause-committed
returns-clause-committed g c = c.put_run.ensures.committed

pub returns-clause-staged : goal.returns-clause-staged
returns-clause-staged g c = c.put_run.ensures.staged

pub returns-clause-place : goal.returns-clause-place
returns-clause-place g c = c.put_run.ensures.place

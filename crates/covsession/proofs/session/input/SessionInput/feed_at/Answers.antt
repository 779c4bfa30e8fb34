use Rattle.std.proofs.Common.{refl}
use Rattle.covsession.proofs.SessionBytes.{front_some, front_none}
use Rattle.covsession.proofs.session.input.SessionInput.feed_at.Goals as goal

pub returns-in-Some-clause-front : goal.returns-in-Some-clause-front
returns-in-Some-clause-front g c = front_some _ _ c.in-Some.at c.pending-pending.ensures c.in-Some.ensures

pub returns-in-None-clause-front : goal.returns-in-None-clause-front
returns-in-None-clause-front g c = front_none _ _ _ c.pending-pending.ensures c.in-None.ensures refl

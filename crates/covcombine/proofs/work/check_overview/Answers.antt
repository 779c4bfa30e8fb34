use Rattle.std.proofs.Common.{refl}
use Rattle.covcombine.proofs.Taken.{room_beside, room_unasked}
use Rattle.covcombine.proofs.work.check_overview.Goals as goal

pub returns-in-Some-default-default-clause-room : goal.returns-in-Some-default-default-clause-room
returns-in-Some-default-default-clause-room c = rw c.in-Some-default-default.is-0 (room_beside c.args.options.now _)

pub returns-in-None-Summary-Words-clause-room : goal.returns-in-None-Summary-Words-clause-room
returns-in-None-Summary-Words-clause-room c = room_unasked c.args.options.now _ c.in-None-Summary-Words.is-1 c.in-None-Summary-Words.is-2

pub returns-in-None-List-default-clause-fault : goal.returns-in-None-List-default-clause-fault
returns-in-None-List-default-clause-fault c = rw c.in-None-List-default.is-0 (refl, c.in-None-List-default.is-1)

pub returns-in-None-Summary-Json-clause-fault : goal.returns-in-None-Summary-Json-clause-fault
returns-in-None-Summary-Json-clause-fault c = rw c.in-None-Summary-Json.is-0 (refl, c.in-None-Summary-Json.is-2)

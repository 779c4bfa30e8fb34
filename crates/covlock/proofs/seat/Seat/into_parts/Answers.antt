use Rattle.std.proofs.Common.{subst}
use Rattle.covlock.specs.Latest.{history_of}
use Rattle.covlock.specs.Logs.{IsLogged}
use Rattle.covlock.specs.Seat.{SeatData}
use Rattle.covlock.proofs.seat.Seat.into_parts.Goals as goal

pub returns-clause-log : goal.returns-clause-log
returns-clause-log g c = subst (λ (seat : SeatData). IsLogged seat (history_of c.self.inside.latest) c.self.inside.share.amount) c.self.view_is c.self.invariant.2

use Rattle.std.proofs.Common.{ap}
use Rattle.covlock.specs.Seat.{SeatData}
use Rattle.covlock.proofs.seat.Seat.job.Goals as goal

pub returns : goal.returns
returns g c = ap (λ (s : SeatData). s.job) c.self.view_is

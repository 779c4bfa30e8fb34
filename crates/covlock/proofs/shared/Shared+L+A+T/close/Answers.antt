use Rattle.std.proofs.Common.{◌≤◌, List, length, subst, sym}
use Rattle.std.specs.List.{AllByRecursion}
use Rattle.covbook.specs.Gather.{IsGathered}
use Rattle.covbook.specs.Op.{EntryData}
use Rattle.covlock.specs.Seat.{SeatData, logs_of}
use Rattle.covlock.proofs.shared.Shared+L+A+T.close.Goals as goal

pub returns-in-Ok-clause-gathered : goal.returns-in-Ok-clause-gathered
returns-in-Ok-clause-gathered g c = subst (λ (entries : List EntryData). IsGathered entries (logs_of c.args.seats)) (sym c.into_entries.ensures.entries) c.in-Ok.ensures.gathered

pub returns-in-Ok-clause-seen : goal.returns-in-Ok-clause-seen
returns-in-Ok-clause-seen g c =
    subst (λ (entries : List EntryData). AllByRecursion (λ (s : SeatData). s.seen ≤ length entries) c.args.seats) (sym c.into_entries.ensures.entries) c.in-Ok.ensures.seen

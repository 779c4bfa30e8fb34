use Rattle.std.proofs.Common.{ℕ, ◌≤◌, List, length, subst, sym}
use Rattle.std.specs.List.{AllByRecursion}
use Rattle.covbook.specs.Gather.{IsGathered}
use Rattle.covbook.specs.Op.{EntryData}
use Rattle.covlock.specs.Handed.{AllAreSeated}
use Rattle.covlock.specs.Seat.{SeatData, logs_of}
use Rattle.covlock.specs.Shared.{SharedData}
use Rattle.covlock.proofs.shared.Shared.close_book.Goals as goal

-- there are as many parts of the count as jobs
pub close-requires : goal.close-requires
close-requires g c = subst (λ (jobs : ℕ). AllAreSeated jobs c.args.seats) c.self.invariant c.in_default.ensures

pub returns-clause-seated : goal.returns-clause-seated
returns-clause-seated g c = subst (λ (s : SharedData). AllAreSeated s.jobs c.args.seats) c.self.view_is c.in_default.ensures

pub returns-clause-gathered : goal.returns-clause-gathered
returns-clause-gathered g c = subst (λ (entries : List EntryData). IsGathered entries (logs_of c.args.seats)) (sym c.close.ensures.history) c.close.ensures.gathered

pub returns-clause-seen : goal.returns-clause-seen
returns-clause-seen g c = subst (λ (entries : List EntryData). AllByRecursion (λ (s : SeatData). s.seen ≤ length entries) c.args.seats) (sym c.close.ensures.history) c.close.ensures.seen

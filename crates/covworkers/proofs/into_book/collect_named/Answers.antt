use denote.Param.Send.{sendable}
use Rattle.std.proofs.Common.{rules, ◌∙◌, IsTrue, ℕ, List, ap, subst}
use Rattle.std.proofs.Crossing as heap
use Rattle.covbook.specs.Gather.{IsGathered}
use Rattle.covbook.specs.Op.{EntryData}
use Rattle.covlock.specs.CloseFault.{told_job}
use Rattle.covlock.specs.Handed.{IsLeastMissing}
use Rattle.covlock.specs.Seat.{SeatData, calls_in, logs_of}
use Rattle.covworkers.specs.declared.readers.Readers.TheVariants as readers
use Rattle.covworkers.specs.Late.{chances_of}
use Rattle.covworkers.specs.Work.{seats_in}
use Rattle.covworkers.proofs.AllSeated.{none_missing_yet}
use Rattle.covworkers.proofs.Filled.{filled_if_closed}
use Rattle.covworkers.proofs.SoFar.{AreClosed, so_far}
use Rattle.covworkers.proofs.into_book.collect_named.Goals as goal

pub returns-clause-collected : goal.returns-clause-collected
returns-clause-collected g c =
    let workers = c.in_ok-workers.workers.items in
    let entries : List EntryData = c.in-Ok.book.entries in
    let closed : AreClosed workers entries = record {
      receipts = c.in_ok-seats.ensures.receipts;
      gathered = subst (λ (seats : List SeatData). IsGathered entries (logs_of seats)) c.in_ok-seats.ensures.seats c.in-Ok.ensures.gathered;
      calls = c.in-Ok.ensures.calls ∙ ap calls_in c.in_ok-seats.ensures.seats;
      legal = c.in-Ok.ensures.history;
      lawful = c.in-Ok.ensures.lawful;
    } in
    so_far g.T.LateInput.may_give g.T.LateInput.may_fail c.args.inputs.items c.args.jobs workers entries c.in_ok-seats.refused c.requires.some c.in_ok-workers.ensures.done closed c.in_ok-seats.ensures.refused
    c.in_ok-seats.ensures.ascending c.a_run_goes_on.ensures.answers c.a_run_goes_on.ensures.totals c.order_does_not_matter.ensures.texts c.calls_count_a_history.ensures.one_more c.calls_count_a_history.ensures.gathered

-- no seat is missing, since each worker hands in its own
pub unreachable-requires : goal.unreachable-requires
unreachable-requires g c =
    let workers = c.in_ok-workers.workers.items in
    let job = told_job c.in-Err._back.2 in
    none_missing_yet (chances_of g.T.LateInput.may_give g.T.LateInput.may_fail) readers.None c.args.inputs.items c.args.jobs workers c.in_ok-workers.ensures.done job
    (subst (λ (n : ℕ). IsLeastMissing n (seats_in workers) job) (c.in_ok-book.ensures.jobs ∙ c.requires.jobs)
    (subst (λ (seats : List SeatData). IsLeastMissing c.in_ok-book.book.jobs seats job) c.in_ok-seats.ensures.seats c.in-Err.ensures.seated))

-- what is kept of entries and of receipts may go to another thread
pub all_done-requires-send-K : goal.all_done-requires-send-K
all_done-requires-send-K g c κs within = search (sendable, heap.crosses) depth 60 fits 20000

pub all_done-requires-send-P : goal.all_done-requires-send-P
all_done-requires-send-P g c κs within = search (sendable, heap.crosses) depth 60 fits 20000

-- the closed book is full, so the workers have as many receipts as a full history has entries
pub returns-then-is_full-clause-unread : goal.returns-then-is_full-clause-unread
returns-then-is_full-clause-unread g c =
    let entries : List EntryData = c.in-Ok.book.entries in
    let yes : IsTrue c.is_full.result = search rules in
    filled_if_closed g.T.LateInput.may_give g.T.LateInput.may_fail readers.None c.args.inputs.items c.args.jobs c.in_ok-workers.workers.items entries c.requires.some c.in_ok-workers.ensures.done c.in_ok-seats.ensures.receipts
    (c.in-Ok.ensures.calls ∙ ap calls_in c.in_ok-seats.ensures.seats) (c.is_full.ensures.full.0 yes)

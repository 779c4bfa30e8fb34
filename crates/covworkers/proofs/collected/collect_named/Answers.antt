use Rattle.std.proofs.Common.{◌≡◌, ◌∙◌, ℕ, List, Global, length, map, refl, ap, subst, arith}
use Rattle.std.proofs.lemmas.List.{length-map}
use Rattle.covbook.specs.EntryView.{entry_data}
use Rattle.covbook.specs.Gather.{LogData, IsGathered}
use Rattle.covbook.specs.LogView.{log_data}
use Rattle.covbook.specs.Op.{EntryData}
use Rattle.covbook.specs.View.{op_data}
use Rattle.covlock.specs.CloseFault.{told_job}
use Rattle.covlock.specs.Handed.{IsLeastMissing}
use Rattle.covlock.specs.Seat.{SeatData}
use Rattle.covworkers.specs.declared.readers.Readers.TheVariants as readers
use Rattle.covworkers.specs.Late.{chances_of}
use Rattle.covworkers.specs.Work.{seats_in}
use Rattle.covworkers.proofs.AllSeated.{none_missing, some_worker}
use Rattle.covworkers.proofs.Everything.{all_collected}
use Rattle.covworkers.proofs.collected.collect_named.Goals as goal

pub returns-clause-collected : goal.returns-clause-collected
returns-clause-collected g c =
    let entries : List EntryData = c.in-Ok.entries in
    let gathered : IsGathered entries c.in_ok-seats.logs =
    subst (λ (logs : List LogData). IsGathered entries logs) c.get-2.ensures
    (subst (λ (es : List EntryData). IsGathered es (map (log_data {A = Global}) c.get-2.result.now)) c.get.ensures (c.in_ok-gather.ensures.gathered.0 refl)) in
    let told : length (map (entry_data {A = Global}) c.get-3.result.now) ≡ length entries = ap (λ (es : List EntryData). length es) c.get-3.ensures in
    let long : length entries ≡ c.in_ok-end.end = omega (arith, told, length-map c.get-3.result.now (entry_data {A = Global}), c.if-get-end.false) in
    all_collected g.T.LateInput.may_give g.T.LateInput.may_fail readers.ForEachJob c.args.inputs.items c.args.jobs c.in_ok-end.end (op_data c.args.last.now) c.in_ok-workers.workers.items c.ask_last.new.workers.items
    entries c.in_ok-seats.logs c.in_ok-seats.refused c.requires.some c.in_ok-workers.ensures.done c.in_ok-end.ensures c.in_ok-seats.ensures.logs c.in_ok-seats.ensures.refused c.in_ok-seats.ensures.ascending
    c.in-Ok.ensures.history c.in-Ok.ensures.lawful gathered long c.a_run_goes_on.ensures.answers c.order_does_not_matter.ensures.texts

-- there is a worker, since there is a job
pub ask_last-requires : goal.ask_last-requires
ask_last-requires g c =
    some_worker (chances_of g.T.LateInput.may_give g.T.LateInput.may_fail) readers.ForEachJob c.args.inputs.items c.args.jobs c.in_ok-workers.workers.items c.requires.some c.in_ok-workers.ensures.done

-- no seat is missing, since each worker hands in its own
pub unreachable-requires : goal.unreachable-requires
unreachable-requires g c =
    let after = c.ask_last.new.workers.items in
    let job = told_job c.in-Err._back.2 in
    none_missing (chances_of g.T.LateInput.may_give g.T.LateInput.may_fail) readers.ForEachJob c.args.inputs.items c.args.jobs c.in_ok-end.end (op_data c.args.last.now) c.in_ok-workers.workers.items after
    c.in_ok-workers.ensures.done c.in_ok-end.ensures job
    (subst (λ (n : ℕ). IsLeastMissing n (seats_in after) job) (c.in_ok-book.ensures.jobs ∙ c.requires.jobs)
    (subst (λ (seats : List SeatData). IsLeastMissing c.in_ok-book.book.jobs seats job) c.in_ok-seats.ensures.seats c.in-Err.ensures.seated))

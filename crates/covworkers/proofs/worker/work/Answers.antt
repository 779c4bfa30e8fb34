use Rattle.std.proofs.Common.{◌≡◌, ◌∙◌, ℕ, ◌∷◌, Bool, List, None, ap, sym, subst, arith}
use Rattle.std.proofs.lemmas.List.{nil_from_length}
use Rattle.std.proofs.lemmas.Result.{err_from_is_err_and}
use Rattle.covlock.specs.Seat.{SeatData}
use Rattle.covworkers.specs.declared.shares.Placed.{Placed}
use Rattle.covworkers.specs.Late.{chances_of}
use Rattle.covworkers.specs.Stops.{counted_of}
use Rattle.covworkers.specs.Work.{MayHaveReader}
use Rattle.covworkers.proofs.GoingOn.{IsGoingOn, none_gone, one_gone, all_gone, all_read, stop_of}
use Rattle.covworkers.proofs.Taken.{Outcome}
use Rattle.covworkers.proofs.worker.work.Goals as goal

pub loop-placed-init : goal.loop-placed-init
loop-placed-init g c =
    let gives : g.row.T.Denot → Outcome g.row.T-Fault.Denot → Type 0 = g.T.LateInput.may_give in (
      ap (λ (s : SeatData). s.job) c.new-worker.ensures.seat,
      none_gone gives c.args.inputs.now.value.items c.args.jobs c.args.seat.job c.into_iter-placed-iterator.result.rest.items None c.new-worker.result
          (c.into_iter-placed-iterator.ensures.into_iter_gives.0 ∙ c.requires.share) c.new-worker.ensures.receipts c.new-worker.ensures.refused c.new-worker.ensures.readings,
      subst (λ (has : Bool). MayHaveReader c.args.readers has) (sym c.new-worker.ensures.reader) c.reader_of-live.ensures,
    )

pub loop-placed-preserved : goal.loop-placed-preserved
loop-placed-preserved g c =
    let gives : g.row.T.Denot → Outcome g.row.T-Fault.Denot → Type 0 = g.T.LateInput.may_give in
    let inputs = c.args.inputs.now.value.items in
    let old = c.loop-placed.worker in
    let new = c.go_on.new.self in
    let rest = c.next.new.self.rest.items in
    let left : c.loop-placed.placed-iterator.rest.items ≡ c.in-Some.placed ∷ rest = c.in-Some.ensures.steps.0 in (
      c.go_on.ensures.job ∙ c.loop-placed.invariant.0,
      one_gone gives inputs c.args.jobs c.args.seat.job c.in-Some.placed rest c.loop-placed.first c.in_ok-fault.fault c.loop-placed.parts c.in_ok-fault.more c.counted-parts.result old new
          (subst (λ (share : List (Placed g.row.T.Denot)). IsGoingOn gives inputs c.args.jobs c.args.seat.job share c.loop-placed.first c.loop-placed.parts old) left c.loop-placed.invariant.1)
          c.in_ok-fault.ensures.outcome
          (c.counted-parts.ensures ∙ ap (λ (n : ℕ). counted_of c.in_ok-fault.fault n c.loop-placed.parts c.in_ok-fault.more) c.submissions.ensures) c.in_ok-fault.ensures.taken c.in_ok-fault.ensures.read,
      subst (λ (has : Bool). MayHaveReader c.args.readers has) (sym c.go_on.ensures.reader) c.loop-placed.invariant.2,
    )

-- after the loop no input of the share is left, so the worker has taken its whole share
pub returns-in-None-first : goal.returns-in-None-first
returns-in-None-first g c =
    let gives : g.row.T.Denot → Outcome g.row.T-Fault.Denot → Type 0 = g.T.LateInput.may_give in
    let worker = c.loop-placed.worker in
    let rest = c.loop-placed.placed-iterator.rest in
    record {
      own = c.loop-placed.invariant.0;
      taken =
          all_gone gives c.args.inputs.now.value.items c.args.jobs c.args.seat.job rest.items c.loop-placed.first c.loop-placed.parts worker c.loop-placed.invariant.1
          (nil_from_length rest.items (omega (arith, c.in-None.ensures.steps.0, rest.ok.0))) c.in-None-first.is;
      read = (c.loop-placed.invariant.1.own c.in-None-first.is).2;
      reader = c.loop-placed.invariant.2;
    }

-- something was refused, and all inputs of the share were read
pub returns-in-Some-first : goal.returns-in-Some-first
returns-in-Some-first g c =
    let rest = c.loop-placed.placed-iterator.rest in
    all_read (chances_of g.T.LateInput.may_give g.T.LateInput.may_fail) c.args.inputs.now.value.items c.args.jobs c.args.seat.job _ c.loop-placed.parts rest.items c.loop-placed.first c.loop-placed.worker c.loop-placed.invariant.1
    (nil_from_length rest.items (omega (arith, c.in-None.ensures.steps.0, rest.ok.0))) (omega (arith, c.args.inputs.now.value.ok.0))

-- a stop while an input is read
pub returns-in_err-fault : goal.returns-in_err-fault
returns-in_err-fault g c =
    let gives : g.row.T.Denot → Outcome g.row.T-Fault.Denot → Type 0 = g.T.LateInput.may_give in
    let inputs = c.args.inputs.now.value.items in
    let old = c.loop-placed.worker in
    let rest = c.next.new.self.rest.items in
    let left : c.loop-placed.placed-iterator.rest.items ≡ c.in-Some.placed ∷ rest = c.in-Some.ensures.steps.0 in
    let p = err_from_is_err_and c.from_residual.result c.from_residual.ensures.1 in
    rw (p.1, p.2)
    (stop_of (chances_of g.T.LateInput.may_give g.T.LateInput.may_fail) c.args.readers inputs c.args.jobs c.args.seat.job c.in-Some.placed rest c.loop-placed.first c.loop-placed.parts old c.in_err-fault.field-0.0
    (subst (λ (share : List (Placed g.row.T.Denot)). IsGoingOn gives inputs c.args.jobs c.args.seat.job share c.loop-placed.first c.loop-placed.parts old) left c.loop-placed.invariant.1) c.in_err-fault.ensures.stop)

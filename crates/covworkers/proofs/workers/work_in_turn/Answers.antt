use Rattle.std.proofs.Common.{rules, ◌≡◌, ◌∙◌, ◌++◌, [], ◌∷◌, List, map, subst, arith}
use Rattle.std.proofs.lemmas.List.{nil_from_length}
use Rattle.covlock.specs.Seat.{SeatData}
use Rattle.covworkers.specs.Late.{chances_of}
use Rattle.covworkers.specs.Work.{WorkData, HaveEnded, work_of}
use Rattle.covworkers.proofs.Ended.{End, ended_at_end, one_ended}
use Rattle.covworkers.proofs.workers.work_in_turn.Goals as goal

-- one more worker has ended
pub loop-seat-preserved : goal.loop-seat-preserved
loop-seat-preserved g c =
    let Work = WorkData g.row.T.Denot in
    let work : SeatData → Work = work_of c.args.inputs.now.value.items c.args.jobs c.args.readers in
    let chances = chances_of g.T.LateInput.may_give g.T.LateInput.may_fail in
    let grown : ◌≡◌ {A = List (End g.row.T-Fault.Denot)} c.push.new.self.items (c.loop-seat.ended.items ++ c.work.result ∷ []) = search rules in (
      one_ended chances work c.into_iter-seat-iterator.result.rest.items c.loop-seat.seat-iterator.rest.items c.next.new.self.rest.items c.in-Some.seat c.loop-seat.ended.items c.push.new.self.items c.work.result c.in-Some.ensures.steps.0 grown
          c.work.ensures c.loop-seat.invariant.0,
      search rules,
      search rules,
    )

-- after the loop no seat is left, so the ends so far are those of all seats' workers
pub returns : goal.returns
returns g c =
    let Work = WorkData g.row.T.Denot in
    let work : SeatData → Work = work_of c.args.inputs.now.value.items c.args.jobs c.args.readers in
    let chances = chances_of g.T.LateInput.may_give g.T.LateInput.may_fail in
    let rest = c.loop-seat.seat-iterator.rest in
    λ started. subst (λ (seats : List SeatData). HaveEnded chances (map work seats) c.loop-seat.ended.items)
    (c.into_iter-seat-iterator.ensures.into_iter_gives.0 ∙ c.into_vec-seats.ensures)
    (ended_at_end chances work c.into_iter-seat-iterator.result.rest.items rest.items c.loop-seat.ended.items c.loop-seat.invariant.0
    (nil_from_length rest.items (omega (arith, c.in-None.ensures.steps.0, rest.ok.0))))

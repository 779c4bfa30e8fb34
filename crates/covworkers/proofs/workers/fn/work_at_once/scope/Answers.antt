use borrow.Author.Rules.{rules}
use denote.Param.{param}
use denote.Param.Send.{IsSend, IsSync, sendable}
use Rattle.std.proofs.Common.{◌≡◌, ◌∙◌, ◌++◌, IsTrue, List, [], map, ap, arith}
use Rattle.std.proofs.Crossing as heap
use Rattle.std.proofs.lemmas.List.{nil_from_length}
use Rattle.covbook.proofs.reading.Readings.TheSendSync as readings
use Rattle.covlock.proofs.Crossing.{live_send, seat_send, shared_sync}
use Rattle.covlock.specs.Seat.{SeatData}
use Rattle.covworkers.specs.Late.{chances_of}
use Rattle.covworkers.specs.Work.{WorkData, work_of}
use Rattle.covworkers.proofs.Ended.{ends_if_ok}
use Rattle.covworkers.proofs.refused.Refused.TheSendSync as refused
use Rattle.covworkers.proofs.shares.Placed.TheSendSync as placed
use Rattle.covworkers.proofs.workers.fn.work_at_once.scope.Goals as goal

-- after the loop no seat is left
pub returns : goal.returns
returns g c =
    let Work = WorkData g.row.T.Denot in
    let work : SeatData → Work = work_of c.captures.inputs.now.value.items c.captures.jobs c.captures.readers in
    let rest = c.loop-seat.seat-iterator.rest in
    let handled : List Work = map (λ h. h.promise) c.loop-seat.handles.items in
    let all : IsTrue c.loop-seat.all_started → handled ++ map work rest.items ≡ map work c.captures.seats =
    λ started. c.loop-seat.invariant.0 started ∙ ap (λ (seats : List SeatData). map work seats) (c.into_iter-seat-iterator.ensures.into_iter_gives.0 ∙ c.into_vec-seats.ensures) in
    let none : map work rest.items ≡ [] = ap (λ (seats : List SeatData). map work seats) (nil_from_length rest.items (omega (arith, c.in-None.ensures.steps.0, rest.ok.0))) in
    ends_if_ok (chances_of g.T.LateInput.may_give g.T.LateInput.may_fail) (λ v. v.items) c.end_all.result (map work c.captures.seats) handled (map work rest.items) c.loop-seat.all_started all none c.end_all.ensures.ended c.end_all.ensures.short

-- the closure may go to another thread, since threads may share the book
pub spawn_with-requires-send-F : goal.spawn_with-requires-send-F
spawn_with-requires-send-F g c κs within =
    let runtime : IsSync g.row.R = search (rules, c.requires) parts 8 in
    let gate : IsSync g.row.G = search (rules, c.requires) parts 8 in
    let text : IsSend (param 3 g.row.T) = search (rules, c.requires) parts 8 in
    let kept : IsSend (param 4 g.row.K) = search (rules, c.requires) parts 8 in
    let stored : IsSend (param 6 g.row.S) = search (rules, c.requires) parts 8 in
    search (sendable, heap.crosses, shared_sync, seat_send, placed.the_send) depth 60 fits 20000

-- and so may its worker
pub spawn_with-requires-send-T : goal.spawn_with-requires-send-T
spawn_with-requires-send-T g c κs within =
    let kept : IsSend (param 5 g.row.P) = search (rules, c.requires) parts 8 in
    let fault : IsSend (param 7 g.row.T-Fault) = search (rules, c.requires) parts 8 in
    search (sendable, heap.crosses, live_send, readings.the_send, refused.the_send, seat_send) depth 60 fits 20000

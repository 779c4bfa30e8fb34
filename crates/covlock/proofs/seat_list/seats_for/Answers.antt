use Rattle.std.proofs.Common.{arith, ap, sym, ◌∙◌, ◌≡◌, List, [], ◌∷◌, ◌++◌}
use Rattle.std.proofs.lemmas.List.FromFn.{map-range_with_len_more}
use Rattle.covlock.specs.Seat.{SeatData, fresh_seat, first_seats}
use Rattle.covlock.proofs.seat_list.seats_for.Goals as goal

-- the seat of the next job comes after those of the jobs before it
pub loop-job-preserved : goal.loop-job-preserved
loop-job-preserved g c =
    let job = c.loop-job.job in
    let more : c.push.new.self ≡ c.loop-job.seats ++ fresh_seat job ∷ [] = c.in_ok-push.ensures.ok ∙ ap (λ (s : SeatData). c.loop-job.seats ++ s ∷ []) c.in_ok-seat.ensures in
    let before : c.loop-job.seats ++ fresh_seat job ∷ [] ≡ first_seats job ++ fresh_seat job ∷ [] = ap (λ (xs : List SeatData). xs ++ fresh_seat job ∷ []) c.loop-job.invariant.2 in
    (omega (arith, c.loop-job.invariant.0, c.split_off.ensures.parts_left), omega (arith, c.loop-job.invariant.1, c.split_off.ensures.amount_left), more ∙ before ∙ sym (map-range_with_len_more fresh_seat 0 job job (omega arith)))

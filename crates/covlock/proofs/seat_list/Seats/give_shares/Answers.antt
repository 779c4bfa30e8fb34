use Rattle.std.proofs.Common.{◌≡◌, ◌∙◌, ℕ, suc, ◌+◌, ◌∷◌, List, [], length, ap, arith, refl, subst, sym}
use Rattle.std.proofs.lemmas.List.{nil_from_length}
use Rattle.covbook.specs.Op.{EntryData}
use Rattle.covnews.proofs.Prefixes.{prefix_of_prefix}
use Rattle.covlock.specs.Latest.{history_of}
use Rattle.covlock.specs.Logs.{AreLogged}
use Rattle.covlock.specs.Seat.{SeatData}
use Rattle.covlock.proofs.Closed.{none_logged, one_given, prefix_of_itself}
use Rattle.covlock.proofs.seat_list.Seats.give_shares.Goals as goal

-- all seats are left
pub loop-seat-init : goal.loop-seat-init
loop-seat-init g c =
    let left : c.into_iter-seat-iterator.result.rest.items ≡ c.args.self = c.into_iter-seat-iterator.ensures.into_iter_gives.0 ∙ c.self.view_is in (
      ap (λ (seats : List SeatData). c.args.to.now.parts + length seats) left,
      c.requires.few,
      prefix_of_itself c.args.news,
      λ history after prefix are. subst (λ (seats : List SeatData). AreLogged history seats c.args.to.now.amount after) left are,
    )

-- the next seat had no news
pub loop-seat-preserved : goal.loop-seat-preserved
loop-seat-preserved g c =
    let rest : List SeatData = c.next.new.self.rest.items in
    let left : c.loop-seat.seat-iterator.rest.items ≡ c.in-Some.seat ∷ rest = c.in-Some.ensures.steps.0 in
    let fewer : length c.loop-seat.seat-iterator.rest.items ≡ suc (length rest) = ap (λ (seats : List SeatData). length seats) left in
    let all : List EntryData = c.longest-all.result in (
      omega (arith, c.loop-seat.invariant.0, c.merge.ensures.parts, c.into_parts-share.ensures.part, fewer),
      c.merge.ensures.apart,
      prefix_of_prefix c.args.news c.loop-seat.all all c.loop-seat.invariant.2 c.longest-all.ensures.news,
      one_given c.loop-seat.all all (history_of c.into_parts-share.result.1) c.in-Some.seat c.loop-seat.seat-iterator.rest.items rest c.args.self c.loop-seat.to.amount c.into_parts-share.result.0.amount c.merge.new.self.amount
          c.args.to.now.amount left c.merge.ensures.amount c.into_parts-share.ensures.log c.longest-all.ensures.news c.longest-all.ensures.latest c.loop-seat.invariant.3,
    )

-- the next seat had news
pub loop-seat-preserved-in-Some : goal.loop-seat-preserved-in-Some
loop-seat-preserved-in-Some g c =
    let rest : List SeatData = c.next.new.self.rest.items in
    let left : c.loop-seat.seat-iterator.rest.items ≡ c.in-Some.seat ∷ rest = c.in-Some.ensures.steps.0 in
    let fewer : length c.loop-seat.seat-iterator.rest.items ≡ suc (length rest) = ap (λ (seats : List SeatData). length seats) left in
    let all : List EntryData = c.longest-all.result in (
      omega (arith, c.loop-seat.invariant.0, c.merge.ensures.parts, c.into_parts-share.ensures.part, fewer),
      c.merge.ensures.apart,
      prefix_of_prefix c.args.news c.loop-seat.all all c.loop-seat.invariant.2 c.longest-all.ensures.news,
      one_given c.loop-seat.all all (history_of c.into_parts-share.result.1) c.in-Some.seat c.loop-seat.seat-iterator.rest.items rest c.args.self c.loop-seat.to.amount c.into_parts-share.result.0.amount c.merge.new.self.amount
          c.args.to.now.amount left c.merge.ensures.amount c.into_parts-share.ensures.log c.longest-all.ensures.news c.longest-all.ensures.latest c.loop-seat.invariant.3,
    )

-- no seat is left, so the seats have seen beginnings of the longest news
pub returns-clause-logs : goal.returns-clause-logs
returns-clause-logs g c =
    let rest = c.loop-seat.seat-iterator.rest in
    let all : List EntryData = c.loop-seat.all in
    let amount = c.loop-seat.to.amount in
    let none : rest.items ≡ [] = nil_from_length rest.items (omega (arith, c.in-None.ensures.steps.0, rest.ok.0)) in
    c.loop-seat.invariant.3 all amount (prefix_of_itself all) (subst (λ (seats : List SeatData). AreLogged all seats amount amount) (sym none) (none_logged all amount amount refl))

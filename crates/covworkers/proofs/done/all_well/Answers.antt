use Rattle.std.proofs.Common.{rules, ◌≡◌, ◌∙◌, inl, ◌++◌, [], ◌∷◌, List, Ok, Err, Some, sym, subst, arith}
use Rattle.std.proofs.lemmas.List.{nil_from_length}
use Rattle.std.specs.List.{sum_by}
use Rattle.std.specs.Prelude.{◌≤◌}
use Rattle.covworkers.specs.declared.stop.Refusal.{Refusal}
use Rattle.covworkers.specs.declared.stop.Stop.{Stop}
use Rattle.covworkers.specs.declared.stop.Stop.TheVariants as stops
use Rattle.covworkers.specs.Work.{IsWorstEnd, WorkerData, parts_of_end, parts_of_stop}
use Rattle.std.proofs.Common.{ℕ}
use Rattle.covworkers.proofs.Ended.{End}
use Rattle.covworkers.proofs.Stopped.{AreCounted, AreSoFar, refused_counted, refused_so_far, unread_counted, unread_so_far, well_at_end, well_counted, well_so_far, worst_counted, worst_so_far, worst_with}
use Rattle.covworkers.proofs.done.all_well.Goals as goal

-- one more worker ended well
pub loop-end-preserved-in-Continue-branch-2 : goal.loop-end-preserved-in-Continue-branch-2
loop-end-preserved-in-Continue-branch-2 g c =
    let workers : List (WorkerData g.row.F.Denot) = c.loop-end.workers.items in
    let rest : List (End g.row.F.Denot) = c.next.new.self.rest.items in
    let left : ◌≡◌ {A = List (End g.row.F.Denot)} c.loop-end.end-iterator.rest.items (Ok c.in-Ok.worker ∷ rest) = search rules in
    let items : ◌≡◌ {A = List (WorkerData g.row.F.Denot)} c.push.new.self.items (workers ++ c.in-Ok.worker ∷ []) = search rules in
    let counted = subst (λ (ends : List (End g.row.F.Denot)). AreCounted c.loop-end.submitted c.loop-end.refused ends c.args.ended.items) left c.loop-end.invariant.1 in (
      subst (λ (ws : List (WorkerData g.row.F.Denot)). AreSoFar ws c.loop-end.least c.loop-end.refused rest c.args.ended.items) (sym items)
          (well_so_far workers c.in-Ok.worker c.loop-end.least c.loop-end.refused rest c.args.ended.items
          (subst (λ (ends : List (End g.row.F.Denot)). AreSoFar workers c.loop-end.least c.loop-end.refused ends c.args.ended.items) left c.loop-end.invariant.0)),
      well_counted c.in-Ok.worker c.loop-end.submitted c.saturating_add-submitted.result c.loop-end.refused rest c.args.ended.items (omega (arith, c.saturating_add-submitted.ensures, c.submissions.ensures)) counted,
    )

-- one more worker came to an input that can't be read
pub loop-end-preserved-in-Err-Unread : goal.loop-end-preserved-in-Err-Unread
loop-end-preserved-in-Err-Unread g c =
    let workers : List (WorkerData g.row.F.Denot) = c.loop-end.workers.items in
    let rest : List (End g.row.F.Denot) = c.next.new.self.rest.items in
    let left : ◌≡◌ {A = List (End g.row.F.Denot)} c.loop-end.end-iterator.rest.items (Err (stops.Unread c.in-Err-Unread.index) ∷ rest) = search rules in
    let counted = subst (λ (ends : List (End g.row.F.Denot)). AreCounted c.loop-end.submitted c.loop-end.refused ends c.args.ended.items) left c.loop-end.invariant.1 in (
      subst (λ (place : ℕ). AreSoFar workers (Some place) c.loop-end.refused rest c.args.ended.items) (sym c.lesser.ensures)
          (unread_so_far workers c.loop-end.least c.loop-end.refused c.in-Err-Unread.index rest c.args.ended.items
          (subst (λ (ends : List (End g.row.F.Denot)). AreSoFar workers c.loop-end.least c.loop-end.refused ends c.args.ended.items) left c.loop-end.invariant.0)),
      unread_counted c.in-Err-Unread.index c.loop-end.submitted c.loop-end.refused rest c.args.ended.items counted,
    )

-- one more worker was refused something
pub loop-end-preserved : goal.loop-end-preserved
loop-end-preserved g c =
    let workers : List (WorkerData g.row.F.Denot) = c.loop-end.workers.items in
    let rest : List (End g.row.F.Denot) = c.next.new.self.rest.items in
    let left : ◌≡◌ {A = List (End g.row.F.Denot)} c.loop-end.end-iterator.rest.items (Err (stops.Refused c.in-Err-Refused.refusal) ∷ rest) = search rules in
    let counted = subst (λ (ends : List (End g.row.F.Denot)). AreCounted c.loop-end.submitted c.loop-end.refused ends c.args.ended.items) left c.loop-end.invariant.1 in (
      subst (λ (refusal : Refusal). AreSoFar workers c.loop-end.least (Some refusal) rest c.args.ended.items) (sym c.both.ensures)
          (refused_so_far workers c.loop-end.least c.loop-end.refused c.in-Err-Refused.refusal rest c.args.ended.items
          (subst (λ (ends : List (End g.row.F.Denot)). AreSoFar workers c.loop-end.least c.loop-end.refused ends c.args.ended.items) left c.loop-end.invariant.0)),
      subst (λ (refusal : Refusal). AreCounted c.loop-end.submitted (Some refusal) rest c.args.ended.items) (sym c.both.ensures)
          (refused_counted c.in-Err-Refused.refusal c.loop-end.submitted c.loop-end.refused rest c.args.ended.items counted),
    )

-- no end is left: all ended well, or this is the worst end
pub returns-in-None-worst-clause-workers : goal.returns-in-None-worst-clause-workers
returns-in-None-worst-clause-workers g c =
    let rest = c.loop-end.end-iterator.rest in
    well_at_end c.loop-end.workers.items c.loop-end.least c.loop-end.refused rest.items c.args.ended.items c.loop-end.invariant.0 (nil_from_length rest.items (omega (arith, c.in-None.ensures.steps.0, rest.ok.0)))
    (sym c.worst.ensures ∙ c.in-None-worst.is)

pub returns-in-Some-worst-clause-fault : goal.returns-in-Some-worst-clause-fault
returns-in-Some-worst-clause-fault g c =
    let rest = c.loop-end.end-iterator.rest in
    inl (subst (λ (stop : Stop). IsWorstEnd c.args.ended.items stop) (sym c.with_parts.ensures) (worst_with c.args.ended.items c.loop-end.submitted c.in-Some-worst.stop
    (worst_so_far c.loop-end.workers.items c.loop-end.least c.loop-end.refused rest.items c.args.ended.items c.in-Some-worst.stop c.loop-end.invariant.0
    (nil_from_length rest.items (omega (arith, c.in-None.ensures.steps.0, rest.ok.0))) (sym c.worst.ensures ∙ c.in-Some-worst.is))))

pub returns-in-Some-worst-clause-parts : goal.returns-in-Some-worst-clause-parts
returns-in-Some-worst-clause-parts g c =
    subst (λ (stop : Stop). parts_of_stop stop ≤ sum_by parts_of_end c.args.ended.items) (sym c.with_parts.ensures)
    (worst_counted c.loop-end.submitted c.loop-end.least c.loop-end.refused c.loop-end.end-iterator.rest.items c.args.ended.items c.in-Some-worst.stop c.loop-end.invariant.1 (sym c.worst.ensures ∙ c.in-Some-worst.is))

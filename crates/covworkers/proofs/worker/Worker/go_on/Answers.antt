use Rattle.std.proofs.Common.{rules, ◌≡◌, ◌∙◌, Option, None, Some, refl, subst, arith}
use Rattle.covworkers.specs.Late.{chances_of}
use Rattle.covworkers.specs.Work.{IsReading}
use Rattle.covworkers.proofs.Parts.{had_outcome, more_of_it, none_of_it, was_taken}
use Rattle.covworkers.proofs.worker.Worker.go_on.Goals as goal

-- nothing is read yet
pub loop-left-init : goal.loop-left-init
loop-left-init g c =
    (refl, refl, none_of_it (chances_of g.T.LateInput.may_give g.T.LateInput.may_fail) c.args.placed.index c.args.placed.input c.args.first c.args.self.now)

-- one more part is read
pub loop-left-preserved : goal.loop-left-preserved
loop-left-preserved g c =
    let chances = chances_of g.T.LateInput.may_give g.T.LateInput.may_fail in
    let old = c.loop-left.self in
    let new = c.take_part.new.self in
    let some : ◌≡◌ {A = Option g.row.T.Denot} c.loop-left.left (Some c.in-Some.input) = search rules in (
      c.take_part.ensures.job ∙ c.loop-left.invariant.0,
      c.take_part.ensures.reader ∙ c.loop-left.invariant.1,
      more_of_it chances c.args.placed.index c.args.placed.input c.in-Some.input c.in_ok-rest.rest c.args.first c.loop-left.fault c.in_ok-rest.after c.loop-left.parts c.in_ok-rest.more c.saturating_add-parts.result c.args.self.now old new
          (omega (arith, c.saturating_add-parts.ensures))
          (subst (λ (left : Option g.row.T.Denot). IsReading chances c.args.placed.index c.args.placed.input c.args.first c.args.self.now left c.loop-left.fault c.loop-left.parts old) some c.loop-left.invariant.2)
          c.in_ok-rest.ensures.reading,
    )

-- after the loop nothing is left of the input, so it had an outcome
pub returns-clause-outcome : goal.returns-clause-outcome
returns-clause-outcome g c =
    let chances = chances_of g.T.LateInput.may_give g.T.LateInput.may_fail in
    let new = c.loop-left.self in
    let none : ◌≡◌ {A = Option g.row.T.Denot} c.loop-left.left None = search rules in
    had_outcome chances c.args.placed.index c.args.placed.input c.args.first c.loop-left.fault c.loop-left.parts c.args.self.now new
    (subst (λ (left : Option g.row.T.Denot). IsReading chances c.args.placed.index c.args.placed.input c.args.first c.args.self.now left c.loop-left.fault c.loop-left.parts new) none c.loop-left.invariant.2)

-- and if nothing was refused, it is taken
pub returns-clause-taken : goal.returns-clause-taken
returns-clause-taken g c =
    let chances = chances_of g.T.LateInput.may_give g.T.LateInput.may_fail in
    let new = c.loop-left.self in
    let none : ◌≡◌ {A = Option g.row.T.Denot} c.loop-left.left None = search rules in
    was_taken chances c.args.placed.index c.args.placed.input c.args.first c.loop-left.fault c.loop-left.parts c.args.self.now new
    (subst (λ (left : Option g.row.T.Denot). IsReading chances c.args.placed.index c.args.placed.input c.args.first c.args.self.now left c.loop-left.fault c.loop-left.parts new) none c.loop-left.invariant.2)

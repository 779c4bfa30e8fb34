use Rattle.covstore.proofs.Words.{Bool, ◌∙◌, ap, refl, sym, held_more, is_above_at, held_if, has_checksum, nat_cmp, value_of}
use Rattle.covstore.proofs.HoldsAgain.{holding_all, holding_can, holding_first, holding_next}
use Rattle.covstore.proofs.stage.copied.hold_again.Goals as goal

pub loop-line-init : goal.loop-line-init
loop-line-init g c = (
  holding_first c.args.lines.now.committed c.args.points.now.staged c.args.checksums.now.staged c.into_iter-line-iterator.result (c.into_iter-line-iterator.ensures.into_iter_gives ∙ c.entries-line-items.ensures)
      c.ascends.ensures c.requires,
  refl,
  refl,
)

pub hold_again-requires : goal.hold_again-requires
hold_again-requires g c =
    let can = holding_can c.args.lines.now.committed c.args.points.now.staged c.args.checksums.now.staged c.in-Some.line.now c.in-Some.sum.now c.loop-line.line-iterator c.next.new.self c.in-Some.ensures.steps
    c.loop-line.checksums.staged c.loop-line.invariant.0 c.if-sum.true in
    record { held = can.0; room = can.1 }

pub loop-line-preserved-then-sum : goal.loop-line-preserved-then-sum
loop-line-preserved-then-sum g c =
    let l = c.loop-line in
    let line = c.in-Some.line.now in
    let was = is_above_at has_checksum (value_of nat_cmp line c.args.points.now.staged) in (
      holding_next c.args.lines.now.committed c.args.points.now.staged c.args.checksums.now.staged line c.in-Some.sum.now l.line-iterator c.next.new.self c.in-Some.ensures.steps l.checksums.staged l.invariant.0
          c.hold_again.new.self.staged
          (c.in_ok-hold_again.ensures.ok
          ∙ ap (λ (own : Bool). held_more line own l.checksums.staged) (c.is_checked.ensures ∙ ap (is_above_at has_checksum) c.staged_at-own.ensures.value)
          ∙ sym (ap (λ (has : Bool). held_if has line was l.checksums.staged) c.if-sum.true)),
      c.hold_again.ensures.committed ∙ l.invariant.1,
      c.hold_again.ensures.texts ∙ l.invariant.2,
    )

pub loop-line-preserved : goal.loop-line-preserved
loop-line-preserved g c =
    let l = c.loop-line in
    let line = c.in-Some.line.now in
    let was = is_above_at has_checksum (value_of nat_cmp line c.args.points.now.staged) in (
      holding_next c.args.lines.now.committed c.args.points.now.staged c.args.checksums.now.staged line c.in-Some.sum.now l.line-iterator c.next.new.self c.in-Some.ensures.steps l.checksums.staged l.invariant.0
          l.checksums.staged (sym (ap (λ (has : Bool). held_if has line was l.checksums.staged) c.if-sum.false)),
      l.invariant.1,
      l.invariant.2,
    )

pub returns-clause-ok : goal.returns-clause-ok
returns-clause-ok g c =
    holding_all c.args.lines.now.committed c.args.points.now.staged c.args.checksums.now.staged c.loop-line.line-iterator c.loop-line.checksums.staged c.in-None.ensures.steps.0 c.loop-line.invariant.0

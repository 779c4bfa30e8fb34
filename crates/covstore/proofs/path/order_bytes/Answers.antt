use Rattle.std.proofs.Common.{sym, ◌∙◌, arith}
use Rattle.covstore.proofs.PathOrder.{words_pass, words_tell}
use Rattle.covstore.proofs.path.order_bytes.Goals as goal

pub returns-then-first-second : goal.returns-then-first-second
returns-then-first-second c =
    c.cmp.ensures
    ∙ words_tell c.args.a.now c.args.b.now (λ k. (c.type_inv.a k).fits) (λ k. (c.type_inv.b k).fits) c.loop-at.at c.word_at-first.result c.word_at-second.result (omega arith) (omega arith)
    c.word_at-first.ensures c.word_at-second.ensures c.if-first-second.true
    ∙ sym c.loop-at.invariant.alike

pub loop-at-preserved : goal.loop-at-preserved
loop-at-preserved c = record {
  within = omega arith;
  alike = c.loop-at.invariant.alike
      ∙ words_pass c.args.a.now c.args.b.now (λ k. (c.type_inv.a k).fits) (λ k. (c.type_inv.b k).fits) c.loop-at.at c.word_at-first.result c.word_at-second.result (omega arith) (omega arith)
      c.word_at-first.ensures c.word_at-second.ensures c.if-first-second.false;
}

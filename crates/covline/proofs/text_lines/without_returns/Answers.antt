use Rattle.std.proofs.Common.{◌∙◌, sym}
use Rattle.covline.proofs.Cut.{strip_returns, strip_other}
use Rattle.covline.proofs.text_lines.without_returns.Goals as goal

pub loop-last-preserved : goal.loop-last-preserved
loop-last-preserved c =
    strip_returns c.loop-last.line.now c.in-Some.front.now c.in-Some.last.now c.in-Some.ensures.cases.0 c.if-last-ne13.false ∙ c.loop-last.invariant

pub returns-then-last-ne13 : goal.returns-then-last-ne13
returns-then-last-ne13 c =
    sym (strip_other c.loop-last.line.now c.in-Some.front.now c.in-Some.last.now c.in-Some.ensures.cases.0 c.if-last-ne13.true) ∙ c.loop-last.invariant

use Rattle.std.proofs.Common.{inr}
use Rattle.covpieces.proofs.LastLines.{section_ends}
use Rattle.covpieces.proofs.cut.without_last_line.Goals as goal

pub returns-then-ends_section : goal.returns-then-ends_section
returns-then-ends_section c =
    inr (section_ends c.args.text.now c.cut_last_line.result.0.now c.cut_last_line.result.1.now c.cut_last_line.ensures (c.ends_section.ensures.0 c.if-ends_section.true))

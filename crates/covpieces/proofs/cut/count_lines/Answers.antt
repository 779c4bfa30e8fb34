use Rattle.std.proofs.Common.{◌∙◌}
use Rattle.covpieces.proofs.LastLines.{lines_are_feeds}
use Rattle.covpieces.proofs.cut.count_lines.Goals as goal

pub returns-clause-value : goal.returns-clause-value
returns-clause-value c = c.count_feeds.ensures ∙ lines_are_feeds c.args.text.now c.requires

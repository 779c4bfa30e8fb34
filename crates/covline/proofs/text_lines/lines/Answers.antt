use Rattle.covline.proofs.Cut.{length-lines}
use Rattle.covline.proofs.text_lines.lines.Goals as goal

pub returns-clause-few : goal.returns-clause-few
returns-clause-few c = length-lines c.args.text.now

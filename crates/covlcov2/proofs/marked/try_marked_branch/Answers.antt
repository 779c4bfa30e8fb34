use Rattle.covlcov2.proofs.MarkedLines.{marked_begins}
use Rattle.covlcov2.proofs.marked.try_marked_branch.Goals as goal

pub returns : goal.returns
returns c = marked_begins c.front_marked.result c.args.text.now c.front_marked.ensures

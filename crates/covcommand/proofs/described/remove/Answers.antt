use Rattle.covcommand.proofs.described.remove.Goals as goal

pub returns : goal.returns
returns c = c.explained.ensures _ c.filter.ensures

use Rattle.covcommand.proofs.described.extract.Goals as goal

pub returns : goal.returns
returns c = c.explained.ensures _ c.filter.ensures

use Rattle.covcommand.proofs.described.merge.Goals as goal

pub returns : goal.returns
returns c = c.explained.ensures _ c.merging.ensures

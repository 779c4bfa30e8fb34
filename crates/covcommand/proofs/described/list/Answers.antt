use Rattle.covcommand.proofs.described.list.Goals as goal

pub returns : goal.returns
returns c = c.explained.ensures _ c.listing.ensures

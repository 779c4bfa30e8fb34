use Rattle.covcommand.proofs.described.listing.Goals as goal

pub returns : goal.returns
returns c = c.taking.ensures _ _ c.merging.ensures c.json.ensures

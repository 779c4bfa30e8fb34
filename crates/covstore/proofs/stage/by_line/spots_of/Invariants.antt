use Rattle.covstore.proofs.Words.{◌≡◌, take, at_spots}
use Rattle.covstore.proofs.stage.by_line.spots_of.Given as goal

abbrev pub invariant-loop-index : goal.invariant-loop-index
invariant-loop-index g l = at_spots l.items l.spots.items ≡ take l.index l.items

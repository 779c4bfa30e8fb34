use Rattle.covstore.proofs.Words.{◌≡◌, take, at_spots, runs_of}
use Rattle.covstore.specs.RunsView.{runs_seen}
use Rattle.covstore.proofs.stage.by_line.runs_at.Given as goal

abbrev pub invariant-loop-spot : goal.invariant-loop-spot
invariant-loop-spot g l = runs_seen l.runs ≡ runs_of (at_spots l.items (take l.spot-index l.spots))

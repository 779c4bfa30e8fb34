use Rattle.covstore.proofs.stage.by_line.sorted_spots.Goals as goal

pub returns : goal.returns
returns g c = record { others = c.in_ok-spots.spots.items; permuted = c.sort_unstable.ensures.permutation; all = c.in_ok-spots.ensures }

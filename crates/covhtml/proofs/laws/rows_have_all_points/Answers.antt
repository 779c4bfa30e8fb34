use Rattle.covhtml.proofs.PointsKept.{branches_kept, counts_kept, places_kept}
use Rattle.covhtml.proofs.RowsRise.{rows_rise}
use Rattle.covhtml.proofs.laws.rows_have_all_points.Goals as goal

pub returns : goal.returns
returns c = record { counts = counts_kept; branches = branches_kept; order = rows_rise; places = places_kept }

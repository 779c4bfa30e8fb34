-- `Runs`, seen as plain data.
use Rattle.std.specs.Prelude.{map}
use Rattle.covdata.specs.PointView.{branch_point_data}
use Rattle.covstore.specs.declared.runs.Runs.{Runs}
use Rattle.covstore.specs.Kinds.{Each}
use Rattle.covstore.specs.Runs.{RunOf}

abbrev pub runs_seen : {A : Type 0} → Runs A → Each RunOf
runs_seen runs = record {
  lines = runs.lines.items;
  functions = map (λ pair. (pair.0.now, pair.1)) runs.functions.items;
  branches = map (λ pair. (branch_point_data pair.0, pair.1)) runs.branches.items;
}

use Rattle.std.specs.Prelude.{◌≡◌, ◌++◌, [], drop, map, option_to_list}
use Rattle.std.specs.List.{flat_map}
use Rattle.covdata.specs.Points.{least}
use Rattle.covtable.specs.Value.{start_said}
use Rattle.covrows.specs.Data.{at_key, key_data, row_data}
use Rattle.covrows.proofs.values.function_start.Given as goal

-- the value so far and the rows that are left give what all rows give
abbrev pub invariant-loop-row : goal.invariant-loop-row
invariant-loop-row g l =
    let own = at_key (start_said l.name) [] (key_data l.key) in
    least (option_to_list l.least ++ flat_map own (map row_data (drop l.row-index l.rows))) ≡ least (flat_map own (map row_data l.rows))

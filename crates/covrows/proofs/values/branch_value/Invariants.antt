use Rattle.std.specs.Prelude.{◌≡◌, ◌++◌, [], drop, map, option_to_list}
use Rattle.std.specs.List.{flat_map}
use Rattle.covdata.specs.PointView.{branch_point_data}
use Rattle.covtable.specs.Value.{sum_if_any, taken_said}
use Rattle.covrows.specs.Data.{at_key, key_data, row_data}
use Rattle.covrows.proofs.values.branch_value.Given as goal

-- the value so far and the rows that are left give what all rows give
abbrev pub invariant-loop-row : goal.invariant-loop-row
invariant-loop-row g l =
    let own = at_key (taken_said (branch_point_data l.point)) [] (key_data l.key) in
    record {
      sum : sum_if_any (option_to_list l.sum ++ flat_map own (map row_data (drop l.row-index l.rows))) ≡ sum_if_any (flat_map own (map row_data l.rows));
      own : sum_if_any (option_to_list l.sum ++ []) ≡ l.sum;
    }

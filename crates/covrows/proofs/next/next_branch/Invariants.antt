use Rattle.std.specs.Prelude.{◌≡◌, None, [], drop, map, option_map}
use Rattle.std.specs.List.{flat_map}
use Rattle.covdata.specs.PointView.{branch_point_data}
use Rattle.covdata.specs.Points.{branch_point}
use Rattle.covtable.specs.Value.{branch_cmp}
use Rattle.covrows.specs.Above.{least_of}
use Rattle.covrows.specs.Data.{at_key, key_data, row_data}
use Rattle.covrows.proofs.next.next_branch.Given as goal

-- the least so far and the rows that are left give what all rows give
abbrev pub invariant-loop-row : goal.invariant-loop-row
invariant-loop-row g l =
    let own = at_key branch_point [] (key_data l.key) in
    least_of branch_cmp (option_map branch_point_data l.last) (option_map branch_point_data l.least) (flat_map own (map row_data (drop l.row-index l.rows))) ≡ least_of branch_cmp (option_map branch_point_data l.last) None (flat_map own (map row_data l.rows))

use Rattle.std.specs.Prelude.{◌≡◌, None, [], drop, map}
use Rattle.std.specs.List.{flat_map}
use Rattle.std.specs.Ordering.{nat_cmp}
use Rattle.covdata.specs.Points.{line_point}
use Rattle.covrows.specs.Above.{least_of}
use Rattle.covrows.specs.Data.{at_key, key_data, row_data}
use Rattle.covrows.proofs.next.next_line.Given as goal

-- the least so far and the rows that are left give what all rows give
abbrev pub invariant-loop-row : goal.invariant-loop-row
invariant-loop-row g l =
    let own = at_key line_point [] (key_data l.key) in
    least_of nat_cmp l.last l.least (flat_map own (map row_data (drop l.row-index l.rows))) ≡ least_of nat_cmp l.last None (flat_map own (map row_data l.rows))

use Rattle.covrows.specs.Above.{least_of}
use Rattle.covrows.specs.Data.{key_data, row_data}
use Rattle.covtable.specs.Value.{key_cmp, key_of_row}
use Rattle.std.specs.Prelude.{◌≡◌, None, drop, map, option_map}
use Rattle.covrows.proofs.next.next_key.Given as goal

-- the least so far and the rows that are left give what all rows give
abbrev pub invariant-loop-row : goal.invariant-loop-row
invariant-loop-row g l =
    let last = option_map key_data l.last in
    least_of key_cmp last (option_map key_data l.least) (map key_of_row (map row_data (drop l.row-index l.rows)))
    ≡ least_of key_cmp last None (map key_of_row (map row_data l.rows))

use Rattle.covrows.specs.Above.{least_of}
use Rattle.covrows.specs.Data.{row_data}
use Rattle.std.specs.Cmp.Lexicographic.{slice_cmp}
use Rattle.std.specs.Ordering.{nat_cmp}
use Rattle.std.specs.Prelude.{◌≡◌, None, drop, map, option_map}
use Rattle.covrows.proofs.next.next_file.Given as goal

-- the least so far and the rows that are left give what all rows give
abbrev pub invariant-loop-row : goal.invariant-loop-row
invariant-loop-row g l =
    let last = option_map (λ file. file.now) l.last in
    least_of (slice_cmp nat_cmp) last (option_map (λ file. file.now) l.least) (map (λ row. row.file) (map row_data (drop l.row-index l.rows)))
    ≡ least_of (slice_cmp nat_cmp) last None (map (λ row. row.file) (map row_data l.rows))

use Rattle.std.specs.Prelude.{◌≡◌, ◌+◌, drop, map}
use Rattle.covrows.specs.Counted.{count_last, is_selected, takes}
use Rattle.covrows.specs.Data.{row_data}
use Rattle.covrows.proofs.counts.count.Given as goal

-- the count so far, and what the rows that are left will add
abbrev pub invariant-loop-at : goal.invariant-loop-at
invariant-loop-at g l =
    let p = takes (is_selected l.selection) l.kind l.hit in
    l.count + count_last p (map row_data (drop l.at l.rows)) ≡ count_last p (map row_data l.rows)

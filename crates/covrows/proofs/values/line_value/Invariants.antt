use Rattle.std.specs.Prelude.{◌≡◌, ◌+◌, drop, map}
use Rattle.std.specs.List.{sum_by}
use Rattle.covrows.specs.Data.{at_key, key_data, row_data}
use Rattle.covtable.specs.Value.{bounded, line_added}
use Rattle.covrows.proofs.values.line_value.Given as goal

-- the sum so far and the rows that are left give what all rows give
abbrev pub invariant-loop-row : goal.invariant-loop-row
invariant-loop-row g l =
    let own = at_key (line_added l.line) 0 (key_data l.key) in
    record {
      sum : bounded (l.sum + sum_by own (map row_data (drop l.row-index l.rows))) ≡ bounded (sum_by own (map row_data l.rows));
      own : bounded l.sum ≡ l.sum;
    }

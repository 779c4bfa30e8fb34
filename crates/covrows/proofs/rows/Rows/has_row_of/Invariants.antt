use Rattle.std.specs.Prelude.{◌≡◌, drop, map}
use Rattle.std.specs.List.{list_any}
use Rattle.covtable.specs.Without.{is_of_test}
use Rattle.covrows.specs.Data.{row_data}
use Rattle.covrows.proofs.rows.Rows.has_row_of.Given as goal

-- no row so far is of the test, so the further rows decide the result
abbrev pub invariant-loop-row : goal.invariant-loop-row
invariant-loop-row g l = list_any (is_of_test l.test) (map row_data (drop l.row-index l.self.rows.items)) ≡ list_any (is_of_test l.test) (map row_data l.self.rows.items)

-- The sum of a line in what items add up to: it is there if the items have the line, and it has a checksum exactly if an item
-- gives one.
use Rattle.covstore.proofs.Words.{◌≡◌, ℕ, Some, List, sym, ap, Contains, nat_cmp, line_point, line_points, ItemData, LineSum, value_of, test_of, line_sum, line_checksum, lines_order}
use Rattle.std.specs.Option.{is_some}
use Rattle.covstore.proofs.SumsKinds.{sums_held, sums_known}
use Rattle.covstore.proofs.SumsLines.{line_held}

pub line_known : (items : List ItemData) (line : ℕ) → Contains (line_points items) line → value_of nat_cmp line (test_of items).lines ≡ Some (line_sum items line).1
line_known items line there = sums_known lines_order line_point line_held items line there

-- the sum that is found for a line is what the items add up to there
pub line_is : (items : List ItemData) (line : ℕ) (value : LineSum) → value_of nat_cmp line (test_of items).lines ≡ Some value → (line_sum items line).1 ≡ value
line_is items line value h = (sums_held lines_order line_point line_held items line value h).1

pub line_has_checksum : (items : List ItemData) (line : ℕ) (value : LineSum) → value_of nat_cmp line (test_of items).lines ≡ Some value → value.has_checksum ≡ is_some (line_checksum line items)
line_has_checksum items line value h = ap (λ (sum : LineSum). sum.has_checksum) (sym (line_is items line value h))

-- The totals, counted from rows. The totals of a file are counted from the items of all its tests.
use Rattle.std.specs.Prelude.{ℕ, Bool, false, nat_lt, ◌==◌, ◌&&◌, List, length, map, filter, count_by}
use Rattle.std.specs.declared.cmp.Ordering.{Ordering}
use Rattle.std.specs.Ordering.{nat_cmp}
use Rattle.std.specs.Cmp.Lexicographic.{slice_cmp}
use Rattle.std.specs.Str.{bytes_eq}
use Rattle.std.specs.List.{flat_map, list_any, sum_by}
use Rattle.covdata.specs.Row.{ItemData, LineItem, FuncItem, BranchItem, Row}
use Rattle.covdata.specs.Points.{BranchPoint, line_point, func_point, branch_point}
use Rattle.covtable.specs.declared.totals.Totals.{Totals}
use Rattle.covtable.specs.Ascending.{ascending}
use Rattle.covtable.specs.Value.{branch_cmp, is_branch, is_taken}

-- the files with a row, ascending
abbrev pub files_of : List Row → List (List ℕ)
files_of rows = ascending (slice_cmp nat_cmp) (map (λ row. row.file) rows)

-- the row is of this file
abbrev pub has_file : List ℕ → Row → Bool
has_file file row = bytes_eq row.file file

-- the items of a file over all tests, in the order of the rows
abbrev pub items_of_file : List ℕ → List Row → List ItemData
items_of_file file rows = map (λ row. row.item) (filter (has_file file) rows)

-- ---- points that are hit

-- the item has this line with a count above 0
abbrev pub hits_line : ℕ → ItemData → Bool
hits_line line (LineItem at count checksum) = at == line && nat_lt 0 count
hits_line line item = false

-- the item has this function with a count above 0
abbrev pub hits_function : List ℕ → ItemData → Bool
hits_function name (FuncItem other line count) = bytes_eq other name && nat_lt 0 count
hits_function name item = false

-- the item has this branch, taken at least once
abbrev pub hits_branch : BranchPoint → ItemData → Bool
hits_branch point (BranchItem line block branch taken) = is_branch point line block branch && is_taken taken
hits_branch point item = false

-- some item hits the point
abbrev pub is_hit_in : {X : Type 0} → (X → ItemData → Bool) → List ItemData → X → Bool
is_hit_in hits items point = list_any (hits point) items

-- how many different points of a kind the items have
abbrev pub found_in : {X : Type 0} → (X → X → Ordering) → (ItemData → List X) → List ItemData → ℕ
found_in cmp point items = length (ascending cmp (flat_map point items))

-- how many different points of a kind are hit by at least one item
abbrev pub hit_in : {X : Type 0} → (X → X → Ordering) → (ItemData → List X) → (X → ItemData → Bool) → List ItemData → ℕ
hit_in cmp point hits items = count_by (is_hit_in hits items) (ascending cmp (flat_map point items))

-- ---- all files

-- the totals counted over rows: for each kind the different points of each file, and those of them that some row hits
abbrev pub totals_over : List Row → Totals
totals_over rows = record {
  lf = sum_by (λ file. found_in nat_cmp line_point (items_of_file file rows)) (files_of rows);
  lh = sum_by (λ file. hit_in nat_cmp line_point hits_line (items_of_file file rows)) (files_of rows);
  ff = sum_by (λ file. found_in (slice_cmp nat_cmp) func_point (items_of_file file rows)) (files_of rows);
  fh = sum_by (λ file. hit_in (slice_cmp nat_cmp) func_point hits_function (items_of_file file rows)) (files_of rows);
  bf = sum_by (λ file. found_in branch_cmp branch_point (items_of_file file rows)) (files_of rows);
  bh = sum_by (λ file. hit_in branch_cmp branch_point hits_branch (items_of_file file rows)) (files_of rows);
}

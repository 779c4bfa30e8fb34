-- What the totals count, in lcov's words. The points found are the different points of a kind, in all files. The points hit are
-- those that some test has with a value above 0.
use Rattle.std.specs.Prelude.{ℕ, Bool, nat_lt, ◌==◌, ◌&&◌, List, map, filter}
use Rattle.std.specs.List.{flat_map, list_any}
use Rattle.std.specs.Set.{distinct_count}
use Rattle.std.specs.Str.{bytes_eq}
use Rattle.covdata.specs.Points.{BranchPoint, line_point, func_point, branch_point}
use Rattle.covdata.specs.Row.{ItemData, Row}
use Rattle.covtable.specs.Value.{items_at, line_value, function_count, branch_value, is_branch, is_taken}

-- a kind of points: which points an item has, which points are the same, and whether the items' value at a point is above 0
pub record Kind (X : Type 0) : Type 0 where
  pub point : ItemData → List X
  pub same : X → X → Bool
  pub is_above : X → List ItemData → Bool

abbrev pub lines : Kind ℕ
lines = record { point = line_point; same = λ a b. a == b; is_above = λ line items. nat_lt 0 (line_value line items) }

abbrev pub functions : Kind (List ℕ)
functions = record { point = func_point; same = bytes_eq; is_above = λ name items. nat_lt 0 (function_count name items) }

abbrev pub branches : Kind BranchPoint
branches = record { point = branch_point; same = λ a b. is_branch a b.line b.block b.branch; is_above = λ point items. is_taken (branch_value point items) }

-- a point of a file
pub record FilePoint (X : Type 0) : Type 0 where
  pub file : List ℕ
  pub point : X

abbrev pub in_file : {X : Type 0} → List ℕ → X → FilePoint X
in_file file x = record { file = file; point = x }

abbrev pub is_same : {X : Type 0} → Kind X → FilePoint X → FilePoint X → Bool
is_same kind a b = bytes_eq a.file b.file && kind.same a.point b.point

-- the points of a kind in the rows, with repetitions
abbrev pub points_of : {X : Type 0} → Kind X → List Row → List (FilePoint X)
points_of kind rows = flat_map (λ row. map (in_file row.file) (kind.point row.item)) rows

-- some test in the rows has the point with a value above 0
abbrev pub is_hit_in_a_test : {X : Type 0} → Kind X → List Row → FilePoint X → Bool
is_hit_in_a_test kind rows p = list_any (λ test. kind.is_above p.point (items_at (record { file = p.file; test = test }) rows)) (map (λ row. row.test) rows)

-- how many different points of a kind the rows have
abbrev pub found : {X : Type 0} → Kind X → List Row → ℕ
found kind rows = distinct_count (is_same kind) (points_of kind rows)

-- how many different points of a kind some test has with a value above 0
abbrev pub hit : {X : Type 0} → Kind X → List Row → ℕ
hit kind rows = distinct_count (is_same kind) (filter (is_hit_in_a_test kind rows) (points_of kind rows))

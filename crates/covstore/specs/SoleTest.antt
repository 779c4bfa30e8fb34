-- The points of the only test of a file, and the counts that follow from them.
use Rattle.std.specs.Prelude.{ℕ, Bool, Option, Some, None, List, [], map}
use Rattle.covmap.specs.MapData.{MapData}
use Rattle.covstore.specs.declared.sums.TestCounts.{TestCounts}
use Rattle.covstore.specs.declared.sums.TestsAddend.{TestsAddend}
use Rattle.covstore.specs.PointIndexCounts.{one_if}

-- the numbers of a point that only one test has. `value` is the value that the test has there
abbrev pub count_of_one : {V : Type 0} → (V → Bool) → V → TestCounts
count_of_one is_above value = record { tests = 1; hit = one_if (is_above value) }

-- the counts of one test with these points
abbrev pub counts_of : {K V : Type 0} → (V → Bool) → List (K × V) → List (K × TestCounts)
counts_of is_above points = map (λ pair. (pair.0, count_of_one is_above pair.1)) points

-- no points, neither committed nor staged ones
abbrev pub no_points : {K V : Type 0} → MapData K V
no_points = record { committed = []; staged = [] }

-- the points that were seen last, or no points
abbrev pub points_seen : {K V : Type 0} → Option (MapData K V) → MapData K V
points_seen None = no_points
points_seen (Some points) = points

-- the points after a commit
abbrev pub after_commit : {K V : Type 0} → MapData K V → MapData K V
after_commit points = record { committed = points.staged; staged = points.staged }

-- the points after a rollback
abbrev pub after_rollback : {K V : Type 0} → MapData K V → MapData K V
after_rollback points = record { committed = points.committed; staged = points.committed }

-- how many points are newly found when a test adds this to a point's numbers
abbrev pub found_by : Option TestsAddend → ℕ
found_by None = 0
found_by (Some more) = one_if more.is_new

-- how many points are newly hit when a test adds this to a point's numbers
abbrev pub hit_by : Option TestsAddend → ℕ
hit_by None = 0
hit_by (Some more) = one_if more.is_hit

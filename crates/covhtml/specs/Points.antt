-- The points of a file over all tests, as pages show them.
use Rattle.std.specs.Prelude.{ℕ, ◌+◌, min, nat_lt, if◌then◌else◌, Option, None, Some, List, [], ◌∷◌, count_by, length, map}
use Rattle.std.specs.declared.cmp.Ordering.{Ordering}
use Rattle.std.specs.Ordering.{match_ordering, nat_cmp}
use Rattle.std.specs.Cmp.Lexicographic.{slice_cmp}
use Rattle.covtable.specs.Content.{BranchValueData, FunctionValueData, LineValueData, SectionData}
use Rattle.covtable.specs.Value.{bounded, branch_cmp, is_taken}
use Rattle.covtable.specs.declared.totals.Totals.{Totals}
use Rattle.covhtml.specs.SourcePage.{TestTotalsData}

-- functions, branches and lines, each in ascending order
pub record PointsData : Type 0 where
  pub functions : List FunctionValueData
  pub branches : List BranchValueData
  pub lines : List LineValueData

-- x and what `more` makes of the rest of a list, with the smaller elements of the list before them. If the list has x's key, both are added up
abbrev pub merged_after : {X : Type 0} → (X → X → Ordering) → (plus : X → X → X) → (x : X) → (more : List X → List X) → List X → List X
merged_after cmp plus x more [] = x ∷ more []
merged_after cmp plus x more (y ∷ ys) =
    match_ordering (cmp x y) (x ∷ more (y ∷ ys)) (plus x y ∷ more ys) (y ∷ merged_after cmp plus x more ys)

-- two ascending lists as one. Elements of the same key are added up
abbrev pub merged : {X : Type 0} → (X → X → Ordering) → (plus : X → X → X) → List X → List X → List X
merged cmp plus [] ys = ys
merged cmp plus (x ∷ xs) ys = merged_after cmp plus x (λ rest. merged cmp plus xs rest) ys

-- a function in two tests: its least start line, and the sum of its counts
abbrev pub function_order : FunctionValueData → FunctionValueData → Ordering
function_order f g = slice_cmp nat_cmp f.name g.name

abbrev pub functions_plus : FunctionValueData → FunctionValueData → FunctionValueData
functions_plus f g = record { line = min f.line g.line; name = f.name; count = bounded (f.count + g.count) }

-- how often a branch was taken in two tests. `None` stands for a block that was never executed
abbrev pub taken_plus : Option ℕ → Option ℕ → Option ℕ
taken_plus None other = other
taken_plus (Some taken) None = Some taken
taken_plus (Some taken) (Some other) = Some (bounded (taken + other))

abbrev pub branch_order : BranchValueData → BranchValueData → Ordering
branch_order a b = branch_cmp a.point b.point

abbrev pub branches_plus : BranchValueData → BranchValueData → BranchValueData
branches_plus a b = record { point = a.point; taken = taken_plus a.taken b.taken }

-- a line in two tests: the sum of its counts. Tests give a line no two different checksums
abbrev pub line_order : LineValueData → LineValueData → Ordering
line_order l m = nat_cmp l.line m.line

abbrev pub lines_plus : LineValueData → LineValueData → LineValueData
lines_plus l m = record { line = l.line; count = bounded (l.count + m.count); checksum = l.checksum }

-- the points of two tests
abbrev pub points_plus : PointsData → PointsData → PointsData
points_plus p q = record {
  functions = merged function_order functions_plus p.functions q.functions;
  branches = merged branch_order branches_plus p.branches q.branches;
  lines = merged line_order lines_plus p.lines q.lines;
}

abbrev pub no_points : PointsData
no_points = record { functions = []; branches = []; lines = [] }

abbrev pub points_in : SectionData → PointsData
points_in s = record { functions = s.functions; branches = s.branches; lines = s.lines }

-- how many points there are, and how many of them are hit
abbrev pub totals_in : PointsData → Totals
totals_in points = record {
  lf = length points.lines;
  lh = count_by (λ l. nat_lt 0 l.count) points.lines;
  ff = length points.functions;
  fh = count_by (λ f. nat_lt 0 f.count) points.functions;
  bf = length points.branches;
  bh = count_by (λ b. is_taken b.taken) points.branches;
}

abbrev pub test_of : SectionData → TestTotalsData
test_of s = record { test = s.key.test; totals = totals_in (points_in s) }

-- the tests of a file's sections, if there are several
abbrev pub tests_of : List SectionData → List TestTotalsData
tests_of sections = if nat_lt 1 (length sections) then map test_of sections else []

-- the points of a file's sections, each once, with the sums of their counts
abbrev pub points_of : List SectionData → PointsData
points_of [] = no_points
points_of (s ∷ sections) = points_plus (points_in s) (points_of sections)

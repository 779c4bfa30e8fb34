-- The kinds of points: for each kind its keys, their order, its sums, and which sums are above 0.
use Rattle.std.specs.Prelude.{ℕ, Bool, nat_lt, List}
use Rattle.std.specs.Cmp.Lexicographic.{slice_cmp}
use Rattle.std.specs.declared.cmp.Ordering.{Ordering}
use Rattle.std.specs.Ordering.{nat_cmp}
use Rattle.covdata.specs.Points.{BranchPoint, branch_point, func_point, line_point}
use Rattle.covdata.specs.Row.{ItemData}
use Rattle.covstore.specs.declared.sums.LineSum.{LineSum}
use Rattle.covstore.specs.declared.sums.FunctionSum.{FunctionSum}
use Rattle.covstore.specs.declared.sums.BranchSum.{BranchSum}
use Rattle.covstore.specs.declared.sums.TestCounts.{TestCounts}
use Rattle.covtable.specs.Value.{branch_cmp, is_taken}

pub data Kind : Type 0 where
  Line : Kind
  Function : Kind
  Branch : Kind

abbrev pub KeyOf : Kind → Type 0
KeyOf Line = ℕ
KeyOf Function = List ℕ
KeyOf Branch = BranchPoint

abbrev pub SumOf : Kind → Type 0
SumOf Line = LineSum
SumOf Function = FunctionSum
SumOf Branch = BranchSum

abbrev pub cmp_of : (kind : Kind) → KeyOf kind → KeyOf kind → Ordering
cmp_of Line = nat_cmp
cmp_of Function = slice_cmp nat_cmp
cmp_of Branch = branch_cmp

abbrev pub line_above : LineSum → Bool
line_above sum = nat_lt 0 sum.count

abbrev pub function_above : FunctionSum → Bool
function_above sum = nat_lt 0 sum.count

abbrev pub branch_above : BranchSum → Bool
branch_above sum = is_taken sum.times

abbrev pub above_of : (kind : Kind) → SumOf kind → Bool
above_of Line = line_above
above_of Function = function_above
above_of Branch = branch_above

-- the points of a kind in an item
abbrev pub point_of : (kind : Kind) → ItemData → List (KeyOf kind)
point_of Line = line_point
point_of Function = func_point
point_of Branch = branch_point

-- ---- something of each kind

pub record Each (T : Kind → Type 0) : Type 0 where
  pub lines : T Line
  pub functions : T Function
  pub branches : T Branch

abbrev pub at : {T : Kind → Type 0} → (kind : Kind) → Each T → T kind
at Line each = each.lines
at Function each = each.functions
at Branch each = each.branches

abbrev pub of_each : {T : Kind → Type 0} → ((kind : Kind) → T kind) → Each T
of_each f = record { lines = f Line; functions = f Function; branches = f Branch }

-- what `each` has, but with this value for this kind
abbrev pub with_at : {T : Kind → Type 0} → (kind : Kind) → T kind → Each T → Each T
with_at Line value each = record { lines = value; functions = each.functions; branches = each.branches }
with_at Function value each = record { lines = each.lines; functions = value; branches = each.branches }
with_at Branch value each = record { lines = each.lines; functions = each.functions; branches = value }

-- the points of a kind, each with its sum
abbrev pub PointsOf : Kind → Type 0
PointsOf kind = List (KeyOf kind × SumOf kind)

-- the points of a kind, each with how many tests have it, and how many have it above 0
abbrev pub CountsOf : Kind → Type 0
CountsOf kind = List (KeyOf kind × TestCounts)

-- A section's own totals and the stated ones as the code has them.
use Rattle.std.specs.Prelude.{◌≡◌, ℕ, ◌==◌, ◌<◌, ◌^◌, not, Bool, true, false, List, length, map, filter}
use Rattle.std.specs.List.{list_any}
use Rattle.std.specs.Ordering.{nat_cmp, ordering_then}
use Rattle.std.specs.declared.cmp.Ordering.{Ordering}
use Rattle.covdata.specs.declared.point.BranchPoint.{BranchPoint}
use Rattle.covdata.specs.declared.trace_line.TotalKind.{TotalKind}
use Rattle.covdata.specs.declared.trace_line.TotalKind.TheVariants.{FuncFound, FuncHit, BranchFound, BranchHit, LineFound, LineHit}
use Rattle.covdata.specs.Points.{line_point}
use Rattle.covdata.specs.Row.{ItemData}
use Rattle.covdata.specs.Records.{LineData, Total}
use Rattle.covread.specs.declared.trace.tally.SectionPoints.{SectionPoints}
use Rattle.covread.specs.declared.trace.tally.OwnTotals.{OwnTotals}
use Rattle.covread.specs.declared.trace.tally.PointKind.{PointKind}
use Rattle.covread.specs.declared.trace.tally.PointKind.TheVariants.{Functions, Branches, Lines}
use Rattle.covread.specs.declared.trace.tally.StatedTotal.{StatedTotal}
use Rattle.covread.specs.Reads.{own_total, items_of}
use Rattle.covread.specs.TracePoints.{AreTotals, Counts, branch_key, hits_said}
use Rattle.covread.specs.TraceFunctions.{AreFunctionTotals}

-- a stated total as the record that it is
abbrev pub stated_record : StatedTotal → LineData
stated_record s = Total s.kind s.value

abbrev pub is_total : LineData → Bool
is_total (Total kind value) = true
is_total says = false

-- a total of this kind counts points of this sort
abbrev pub has : PointKind → TotalKind → Bool
has Functions FuncFound = true
has Functions FuncHit = true
has Functions kind = false
has Branches BranchFound = true
has Branches BranchHit = true
has Branches kind = false
has Lines LineFound = true
has Lines LineHit = true
has Lines kind = false

-- the record states a total of this sort
abbrev pub states : PointKind → LineData → Bool
states sort (Total kind value) = has sort kind
states sort says = false

-- the own total of this kind
abbrev pub own_value : OwnTotals → TotalKind → ℕ
own_value own FuncFound = own.functions.found
own_value own FuncHit = own.functions.hit
own_value own BranchFound = own.branches.found
own_value own BranchHit = own.branches.hit
own_value own LineFound = own.lines.found
own_value own LineHit = own.lines.hit

-- the record states another total than these
abbrev pub differs : OwnTotals → LineData → Bool
differs own (Total kind value) = not (value == own_value own kind)
differs own says = false

-- the record states another total than the section's own
abbrev pub is_other : List LineData → LineData → Bool
is_other inside (Total kind value) = not (value == own_total kind (items_of inside))
is_other inside says = false

-- branches by line, then by block, then by their number
abbrev pub branch_cmp : BranchPoint → BranchPoint → Ordering
branch_cmp a b = ordering_then (nat_cmp a.line b.line) (ordering_then (nat_cmp a.block b.block) (nat_cmp a.branch b.branch))

-- these are the section's own totals. Those of branches have to be right only if the section states a total of branches, and
-- those of lines only if it states one of lines
pub record AreOwn (own : OwnTotals) (inside : List LineData) : Type 0 where
  pub functions : AreFunctionTotals own.functions inside
  pub branches : list_any (states Branches) inside ≡ true → AreTotals branch_cmp branch_key own.branches (items_of inside)
  pub lines : list_any (states Lines) inside ≡ true → AreTotals nat_cmp line_point own.lines (items_of inside)

-- the section has these functions, branches and lines, and states these totals
pub record HasTotals (stated : List StatedTotal) (has : SectionPoints) (all : List ItemData) (inside : List LineData) : Type 0 where
  pub totals : map stated_record stated ≡ filter is_total inside
  pub functions : AreFunctionTotals has.functions inside
  pub branches : Counts branch_cmp has.branches (hits_said branch_key all)
  pub lines : Counts nat_cmp has.lines (hits_said line_point all)
  pub items : all ≡ items_of inside

-- the points are few enough to be counted
pub record AreFew (items : List ItemData) : Type 0 where
  pub branches : length (hits_said branch_key items) < 2 ^ 64
  pub lines : length (hits_said line_point items) < 2 ^ 64

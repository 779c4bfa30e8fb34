-- What the lines of an open section give, one after another.
use Rattle.std.specs.Prelude.{◌≡◌, ℕ, ◌+◌, nat_lt, Bool, List, [], ◌∷◌, length, map, filter}
use Rattle.std.specs.List.{flat_map}
use Rattle.std.specs.Ordering.{nat_cmp}
use Rattle.covdata.specs.Points.{line_point}
use Rattle.covdata.specs.Row.{ItemData, LineItem, FuncItem, BranchItem}
use Rattle.covdata.specs.Records.{LineData, Test, Path, FuncStart, FuncCount, Branch, Line, Total, End, Skip}
use Rattle.covread.specs.declared.trace.section.SectionBuilder.{SectionBuilder}
use Rattle.covread.specs.declared.trace.section.PendingCount.{PendingCount}
use Rattle.covread.specs.Reads.{start_in}
use Rattle.covread.specs.TraceFunctions.{AreFunctions}
use Rattle.covread.specs.TracePoints.{Counts, branch_key, hits_said}
use Rattle.covread.specs.TraceTally.{branch_cmp, is_total, stated_record}

-- an open section keeps this record
abbrev pub IsKept : LineData → Type 0
IsKept (FuncStart line name) = Unit {0}
IsKept (FuncCount count name) = Unit {0}
IsKept (Branch line block branch taken) = Unit {0}
IsKept (Line line count checksum) = Unit {0}
IsKept (Total kind value) = Unit {0}
IsKept (Test name) = ⊥
IsKept (Path path) = ⊥
IsKept End = ⊥
IsKept Skip = ⊥

-- the item of a record as it is before the section ends: that of a function's count has the start line 0
abbrev pub item_said : LineData → List ItemData
item_said (FuncStart line name) = FuncItem name line 0 ∷ []
item_said (FuncCount count name) = FuncItem name 0 count ∷ []
item_said (Branch line block branch taken) = BranchItem line block branch taken ∷ []
item_said (Line line count checksum) = LineItem line count checksum ∷ []
item_said says = []

abbrev pub stored : List LineData → List ItemData
stored inside = flat_map item_said inside

-- a count of a function: the place of its item, the function, and whether the count is above 0
pub record Mark : Type 0 where
  pub at : ℕ
  pub name : List ℕ
  pub is_hit : Bool

abbrev pub mark : PendingCount → Mark
mark w = record { at = w.at; name = w.name.now; is_hit = w.is_hit }

-- the marks of the records that count functions. `at` is the place of the first item of these records
abbrev pub marks_from : ℕ → List LineData → List Mark
marks_from at [] = []
marks_from at (FuncCount count name ∷ rest) = record { at = at; name = name; is_hit = nat_lt 0 count } ∷ marks_from (at + 1) rest
marks_from at (says ∷ rest) = marks_from (at + length (item_said says)) rest

-- the builder, and these items of the open section, hold what these records give
pub record IsBuiltOf {A : Type 0} (g : SectionBuilder A) (items : List ItemData) (inside : List LineData) : Type 0 where
  pub items_are : items ≡ stored inside
  pub functions : AreFunctions g.functions (λ name. start_in name inside) []
  pub waiting : map mark g.waiting.items ≡ marks_from 0 inside
  pub lines : Counts nat_cmp g.lines (hits_said line_point (stored inside))
  pub branches : Counts branch_cmp g.branches (hits_said branch_key (stored inside))
  pub totals : map stated_record g.totals.items ≡ filter is_total inside

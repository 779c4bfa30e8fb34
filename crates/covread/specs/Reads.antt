-- What the lines of a tracefile say together (geninfo(1) of LCOV 1.x, FILES). A tracefile is a list of parts. Each part is
-- a closed section, or a single line outside of any section.
use Rattle.std.specs.Prelude.{◌≡◌, ℕ, ◌+◌, Bool, false, ◌==◌, ◌&&◌, nat_eq, not, is_none, List, [], ◌∷◌, ◌++◌, Option, Some, None, filter, count_by, if◌then◌else◌}
use Rattle.std.specs.Str.{bytes_eq}
use Rattle.std.specs.List.{flat_map, sum_by, list_any, AllByRecursion}
use Rattle.covdata.specs.declared.trace_line.TotalKind.{TotalKind}
use Rattle.covdata.specs.declared.trace_line.TotalKind.TheVariants.{FuncFound, FuncHit, BranchFound, BranchHit, LineFound, LineHit}
use Rattle.covdata.specs.Row.{ItemData, LineItem, FuncItem, BranchItem, SectData, SubmissionData}
use Rattle.covdata.specs.Points.{BranchPoint, line_points, func_points, branch_points, is_hit, least}
use Rattle.covdata.specs.Records.{LineData, Test, Path, FuncStart, FuncCount, Branch, Line, Total, End, Skip}
use Rattle.covline.specs.Spells.{Spells}

-- each line says the record that the second list has at its place; a blank line says `Skip`
abbrev pub AllSpell : List (List ℕ) → List LineData → Type 0
AllSpell [] [] = Unit {0}
AllSpell [] (says ∷ more) = ⊥
AllSpell (line ∷ lines) [] = ⊥
AllSpell (line ∷ lines) (says ∷ more) = Spells line says × AllSpell lines more

-- a part of a lawful text: a line outside of sections, or a closed section with what its inner lines say
pub data Part : Type 0 where
  Outside : (says : LineData) → Part
  Section : (path : List ℕ) (inside : List LineData) → Part

-- outside of sections there are test names and skipped lines
abbrev pub IsOutside : LineData → Type 0
IsOutside (Test name) = Unit {0}
IsOutside Skip = Unit {0}
IsOutside says = ⊥

-- inside of a section there are start lines, counts, totals and skipped lines: all but test names, paths and ends
abbrev pub IsInside : LineData → Type 0
IsInside (Test name) = ⊥
IsInside (Path path) = ⊥
IsInside End = ⊥
IsInside says = Unit {0}

abbrev pub IsLawfulPart : Part → Type 0
IsLawfulPart (Outside says) = IsOutside says
IsLawfulPart (Section path inside) = AllByRecursion IsInside inside

-- the records of a part; a section has its path, its inner records and its end
abbrev pub records_of : Part → List LineData
records_of (Outside says) = says ∷ []
records_of (Section path inside) = Path path ∷ (inside ++ End ∷ [])

-- the start line that a record gives to the function of this name
abbrev pub start_said : List ℕ → LineData → List ℕ
start_said name (FuncStart line other) = if bytes_eq other name then line ∷ [] else []
start_said name says = []

-- the least start line that the records of a section give a function, above or below its counts; `None` if no record gives one
abbrev pub start_in : List ℕ → List LineData → Option ℕ
start_in name inside = least (flat_map (start_said name) inside)

-- the item of a function's count, if the function has a start line
abbrev pub counted : List ℕ → ℕ → Option ℕ → List ItemData
counted name count None = []
counted name count (Some line) = FuncItem name line count ∷ []

-- the items that a record of a section gives
abbrev pub items_said : List LineData → LineData → List ItemData
items_said inside (FuncStart line name) = FuncItem name line 0 ∷ []
items_said inside (FuncCount count name) = counted name count (start_in name inside)
items_said inside (Branch line block branch taken) = BranchItem line block branch taken ∷ []
items_said inside (Line line count checksum) = LineItem line count checksum ∷ []
items_said inside says = []

-- the items of a section, in the order of their lines
abbrev pub items_of : List LineData → List ItemData
items_of inside = flat_map (items_said inside) inside

-- how many different elements a list has
abbrev pub distinct : {X : Type 0} → (X → X → Bool) → List X → ℕ
distinct same [] = 0
distinct same (x ∷ xs) = if list_any (same x) xs then distinct same xs else distinct same xs + 1

abbrev pub branch_eq : BranchPoint → BranchPoint → Bool
branch_eq a b = a.line == b.line && a.block == b.block && a.branch == b.branch

-- a section's own total of this kind: how many different functions, branches or lines its items count, or how many of these
-- some item counts above 0. Functions without a start line have no items
abbrev pub own_total : TotalKind → List ItemData → ℕ
own_total FuncFound items = distinct bytes_eq (func_points items)
own_total FuncHit items = distinct bytes_eq (func_points (filter is_hit items))
own_total BranchFound items = distinct branch_eq (branch_points items)
own_total BranchHit items = distinct branch_eq (branch_points (filter is_hit items))
own_total LineFound items = distinct nat_eq (line_points items)
own_total LineHit items = distinct nat_eq (line_points (filter is_hit items))

-- the record is odd in its section: it counts a function without a start line there, or states a total other than the
-- section's own
abbrev pub is_odd : List LineData → LineData → Bool
is_odd inside (FuncCount count name) = is_none (start_in name inside)
is_odd inside (Total kind value) = not (value == own_total kind (items_of inside))
is_odd inside says = false

abbrev pub odd_in : Part → ℕ
odd_in (Outside says) = 0
odd_in (Section path inside) = count_by (is_odd inside) inside

-- the test's name after a line outside of sections
abbrev pub test_after : List ℕ → LineData → List ℕ
test_after test (Test name) = name
test_after test says = test

-- the sections of the parts. A section's test is the name in the last test line before it, or `test` if there is no such line
abbrev pub sects_from : List ℕ → List Part → List SectData
sects_from test [] = []
sects_from test (Outside says ∷ parts) = sects_from (test_after test says) parts
sects_from test (Section path inside ∷ parts) = record { test = test; file = path; items = items_of inside } ∷ sects_from test parts

-- the lines are a lawful text, and this is what it says; before the first test line the test's name is empty
pub record Reads (lines : List (List ℕ)) (submission : SubmissionData) : Type 0 where
  pub parts : List Part
  pub lawful : AllByRecursion IsLawfulPart parts
  pub spelled : AllSpell lines (flat_map records_of parts)
  pub sects : submission.sects ≡ sects_from [] parts
  pub odd : submission.odd ≡ sum_by odd_in parts

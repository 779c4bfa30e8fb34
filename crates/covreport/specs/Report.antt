-- The printed tracefile of sections (geninfo(1), FILES).
use Rattle.std.specs.Prelude.{ℕ, ◌==◌, List, [], ◌∷◌, ◌++◌, length, map, filter, nat_lt, count_by, if◌then◌else◌}
use Rattle.std.specs.declared.cmp.Ordering.{Ordering}
use Rattle.std.specs.Ordering.{match_ordering, ordering_then, nat_cmp}
use Rattle.std.specs.Cmp.Lexicographic.{slice_cmp}
use Rattle.std.specs.List.{flat_map}
use Rattle.covdata.specs.declared.trace_line.TotalKind.{TotalKind}
use Rattle.covdata.specs.declared.trace_line.TotalKind.TheVariants.{FuncFound, FuncHit, BranchFound, BranchHit, LineFound, LineHit}
use Rattle.covdata.specs.Records.{LineData, Test, Path, FuncStart, FuncCount, Branch, Line, Total, End}
use Rattle.covdata.specs.Printed.{printed}
use Rattle.covtable.specs.Content.{FunctionValueData, BranchValueData, LineValueData, SectionData}
use Rattle.covtable.specs.Value.{is_taken}
use Rattle.covreport.specs.Choice.{ChoiceData, is_chosen}

-- the sorted list with x inserted at its place
abbrev pub put_in : {X : Type 0} → (X → X → Ordering) → X → List X → List X
put_in cmp x [] = x ∷ []
put_in cmp x (y ∷ ys) = match_ordering (cmp x y) (x ∷ y ∷ ys) (x ∷ y ∷ ys) (y ∷ put_in cmp x ys)

abbrev pub sorted : {X : Type 0} → (X → X → Ordering) → List X → List X
sorted cmp [] = []
sorted cmp (x ∷ xs) = put_in cmp x (sorted cmp xs)

-- the two records of the totals of a kind: how many points are found, and how many are hit
abbrev pub totals : TotalKind → TotalKind → ℕ → ℕ → List LineData
totals found_kind hit_kind found hit = Total found_kind found ∷ Total hit_kind hit ∷ []

-- the same two records, or no record if there are no points
abbrev pub totals_if_any : TotalKind → TotalKind → ℕ → ℕ → List LineData
totals_if_any found_kind hit_kind found hit = if found == 0 then [] else totals found_kind hit_kind found hit

-- the order of printed functions: by start line and then by the name's bytes. The counts decide nothing among functions of
-- different names, and those of one section differ in their names
abbrev pub function_cmp : FunctionValueData → FunctionValueData → Ordering
function_cmp a b = ordering_then (nat_cmp a.line b.line) (ordering_then (slice_cmp nat_cmp a.name b.name) (nat_cmp a.count b.count))

abbrev pub by_start : List FunctionValueData → List FunctionValueData
by_start functions = sorted function_cmp functions

-- the record of a function's start line
abbrev pub start_record : FunctionValueData → LineData
start_record f = FuncStart f.line f.name

-- the record of a function's count
abbrev pub call_record : FunctionValueData → LineData
call_record f = FuncCount f.count f.name

-- how many functions have a count above 0
abbrev pub functions_hit : List FunctionValueData → ℕ
functions_hit functions = count_by (λ f. nat_lt 0 f.count) functions

-- the functions of a section: their start lines, then their counts, then their totals if there is a function
abbrev pub function_records : List FunctionValueData → List LineData
function_records functions =
    map start_record (by_start functions) ++ (map call_record (by_start functions)
    ++ totals_if_any FuncFound FuncHit (length functions) (functions_hit functions))

-- the record of a branch
abbrev pub branch_record : BranchValueData → LineData
branch_record b = Branch b.point.line b.point.block b.point.branch b.taken

-- how many branches were taken at least once
abbrev pub branches_hit : List BranchValueData → ℕ
branches_hit branches = count_by (λ b. is_taken b.taken) branches

-- the branches of a section, then their totals if there is a branch
abbrev pub branch_records : List BranchValueData → List LineData
branch_records branches =
    map branch_record branches
    ++ totals_if_any BranchFound BranchHit (length branches) (branches_hit branches)

-- the record of a line
abbrev pub line_record : LineValueData → LineData
line_record l = Line l.line l.count l.checksum

-- how many lines have a count above 0
abbrev pub lines_hit : List LineValueData → ℕ
lines_hit lines = count_by (λ l. nat_lt 0 l.count) lines

-- the lines of a section, then their totals, even if there is no line
abbrev pub line_records : List LineValueData → List LineData
line_records lines = map line_record lines ++ totals LineFound LineHit (length lines) (lines_hit lines)

abbrev pub section_records : SectionData → List LineData
section_records s =
    Test s.key.test ∷ Path s.key.file ∷ (function_records s.functions ++ (branch_records s.branches ++ (line_records s.lines ++ (End ∷ []))))

abbrev pub section_text : SectionData → List ℕ
section_text s = flat_map printed (section_records s)

-- the sections of the chosen files, one after another
abbrev pub report_text : ChoiceData → List SectionData → List ℕ
report_text choice sections = flat_map section_text (filter (λ s. is_chosen choice s.key.file) sections)

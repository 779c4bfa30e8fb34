-- The value of rows: execution counts are added up for matching test and file (lcov(1), --add-tracefile).
use Rattle.std.specs.Prelude.{ℕ, ◌-◌, ◌^◌, min, Bool, false, List, [], ◌∷◌, Option, Some, None, unwrap_or, nat_lt, ◌==◌, ◌&&◌, map, filter, if◌then◌else◌}
use Rattle.std.specs.declared.cmp.Ordering.{Ordering}
use Rattle.std.specs.Ordering.{ordering_then, nat_cmp}
use Rattle.std.specs.Cmp.Lexicographic.{slice_cmp}
use Rattle.std.specs.Str.{bytes_eq}
use Rattle.std.specs.List.{flat_map, sum_by}
use Rattle.covdata.specs.Row.{ItemData, LineItem, FuncItem, BranchItem, Row}
use Rattle.covdata.specs.Points.{BranchPoint, line_points, func_points, branch_points, least}
use Rattle.covtable.specs.Ascending.{ascending}

-- a file and a test: the key of a section
pub record Key : Type 0 where
  pub file : List ℕ
  pub test : List ℕ

-- the order of keys: by file and then by test, both byte by byte
abbrev pub key_cmp : Key → Key → Ordering
key_cmp a b = ordering_then (slice_cmp nat_cmp a.file b.file) (slice_cmp nat_cmp a.test b.test)

abbrev pub key_of_row : Row → Key
key_of_row row = record { file = row.file; test = row.test }

-- the keys of the rows, each once, ascending
abbrev pub keys_of : List Row → List Key
keys_of rows = ascending key_cmp (map key_of_row rows)

-- the row is of this file and this test
abbrev pub has_key : Key → Row → Bool
has_key key row = bytes_eq row.file key.file && bytes_eq row.test key.test

-- the items of a file and a test, in the order of the rows
abbrev pub items_at : Key → List Row → List ItemData
items_at key rows = map (λ row. row.item) (filter (has_key key) rows)

-- a sum that stops at the largest number of 128 bits
abbrev pub bounded : ℕ → ℕ
bounded n = min n (2 ^ 128 - 1)

-- ---- lines

-- the lines of the items, each once, ascending
abbrev pub lines_in : List ItemData → List ℕ
lines_in items = ascending nat_cmp (line_points items)

-- what an item adds to the count of this line
abbrev pub line_added : ℕ → ItemData → ℕ
line_added line (LineItem at count checksum) = if at == line then count else 0
line_added line item = 0

-- the value of a line: the sum of the execution counts that the items give for it
abbrev pub line_value : ℕ → List ItemData → ℕ
line_value line items = bounded (sum_by (line_added line) items)

-- the checksum that an item gives for this line
abbrev pub checksum_said : ℕ → ItemData → List (List ℕ)
checksum_said line (LineItem at count (Some checksum)) = if at == line then checksum ∷ [] else []
checksum_said line item = []

abbrev pub first_of : {X : Type 0} → List X → Option X
first_of [] = None
first_of (x ∷ xs) = Some x

-- the line's checksum, if an item gives one. In a table, the items of a file give no two different checksums for a line
abbrev pub line_checksum : ℕ → List ItemData → Option (List ℕ)
line_checksum line items = first_of (flat_map (checksum_said line) items)

-- ---- functions

-- the names of the items' functions, each once, ascending
abbrev pub names_in : List ItemData → List (List ℕ)
names_in items = ascending (slice_cmp nat_cmp) (func_points items)

-- the start line that an item gives for this function
abbrev pub start_said : List ℕ → ItemData → List ℕ
start_said name (FuncItem other line count) = if bytes_eq other name then line ∷ [] else []
start_said name item = []

-- the start line of a function: the least one that an item gives, or 0 if none gives one
abbrev pub function_start : List ℕ → List ItemData → ℕ
function_start name items = unwrap_or (least (flat_map (start_said name) items)) 0

abbrev pub function_added : List ℕ → ItemData → ℕ
function_added name (FuncItem other line count) = if bytes_eq other name then count else 0
function_added name item = 0

-- the execution count of a function: the sum of the counts that the items give for it
abbrev pub function_count : List ℕ → List ItemData → ℕ
function_count name items = bounded (sum_by (function_added name) items)

-- ---- branches

-- the order of branches: by line, then by block, then by number
abbrev pub branch_cmp : BranchPoint → BranchPoint → Ordering
branch_cmp a b = ordering_then (nat_cmp a.line b.line) (ordering_then (nat_cmp a.block b.block) (nat_cmp a.branch b.branch))

-- the branches of the items, each once, ascending
abbrev pub branches_in : List ItemData → List BranchPoint
branches_in items = ascending branch_cmp (branch_points items)

abbrev pub is_branch : BranchPoint → ℕ → ℕ → ℕ → Bool
is_branch point line block branch = line == point.line && block == point.block && branch == point.branch

-- how often this branch was taken, if the item gives a number
abbrev pub taken_said : BranchPoint → ItemData → List ℕ
taken_said point (BranchItem line block branch (Some taken)) = if is_branch point line block branch then taken ∷ [] else []
taken_said point item = []

-- the sum of the numbers, or `None` if there are no numbers
abbrev pub sum_if_any : List ℕ → Option ℕ
sum_if_any [] = None
sum_if_any (n ∷ ns) = Some (bounded (sum_by (λ m. m) (n ∷ ns)))

-- the value of a branch: the sum of the numbers that items give for it, or `None` if no item gives one
abbrev pub branch_value : BranchPoint → List ItemData → Option ℕ
branch_value point items = sum_if_any (flat_map (taken_said point) items)

-- the branch was taken
abbrev pub is_taken : Option ℕ → Bool
is_taken None = false
is_taken (Some taken) = nat_lt 0 taken

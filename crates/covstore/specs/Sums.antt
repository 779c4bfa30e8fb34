-- What the items of a file and a test add up to, by kind: each point with its value, ascending; and what one more item changes.
use Rattle.std.specs.Prelude.{ℕ, ◌+◌, min, Bool, ◌||◌, Option, Some, None, List, map}
use Rattle.std.specs.Option.{is_some}
use Rattle.std.specs.Cmp.Lexicographic.{slice_cmp}
use Rattle.std.specs.Ordering.{nat_cmp}
use Rattle.covdata.specs.Points.{BranchPoint}
use Rattle.covdata.specs.Row.{ItemData, LineItem, FuncItem, BranchItem}
use Rattle.covstore.specs.declared.sums.LineSum.{LineSum}
use Rattle.covstore.specs.declared.sums.FunctionSum.{FunctionSum}
use Rattle.covstore.specs.declared.sums.BranchSum.{BranchSum}
use Rattle.covstore.specs.Kinds.{Branch, Each, Function, KeyOf, Kind, Line, PointsOf, SumOf, with_at}
use Rattle.covmap.specs.Puts.{put, value_of}
use Rattle.covtable.specs.Value.{bounded, branch_cmp, branch_value, branches_in, function_count, function_start, line_checksum, line_value, lines_in, names_in}

-- the lines, functions and branches of a test. Each point has what the test's items add up to there
abbrev pub TestData : Type 0
TestData = Each PointsOf

abbrev pub line_sum : List ItemData → ℕ → ℕ × LineSum
line_sum items line = (line, record { count = line_value line items; has_checksum = is_some (line_checksum line items) })

abbrev pub function_sum : List ItemData → List ℕ → List ℕ × FunctionSum
function_sum items name = (name, record { line = function_start name items; count = function_count name items })

abbrev pub branch_sum : List ItemData → BranchPoint → BranchPoint × BranchSum
branch_sum items point = (point, record { times = branch_value point items })

abbrev pub sum_at : (kind : Kind) → List ItemData → KeyOf kind → SumOf kind
sum_at Line items line = (line_sum items line).1
sum_at Function items name = (function_sum items name).1
sum_at Branch items point = (branch_sum items point).1

-- what items add up to
abbrev pub test_of : List ItemData → TestData
test_of items = record {
  lines = map (line_sum items) (lines_in items);
  functions = map (function_sum items) (names_in items);
  branches = map (branch_sum items) (branches_in items);
}

-- ---- one more item

abbrev pub line_with : ℕ → Bool → Option LineSum → LineSum
line_with count has_checksum None = record { count = bounded count; has_checksum = has_checksum }
line_with count has_checksum (Some before) = record { count = bounded (before.count + count); has_checksum = before.has_checksum || has_checksum }

abbrev pub function_with : ℕ → ℕ → Option FunctionSum → FunctionSum
function_with line count None = record { line = line; count = bounded count }
function_with line count (Some before) = record { line = min before.line line; count = bounded (before.count + count) }

-- the sum of two numbers, each of which may be missing. `None` if both are missing
abbrev pub sum_taken : Option ℕ → Option ℕ → Option ℕ
sum_taken None None = None
sum_taken None (Some taken) = Some (bounded taken)
sum_taken (Some before) None = Some before
sum_taken (Some before) (Some taken) = Some (bounded (before + taken))

abbrev pub branch_with : Option ℕ → Option BranchSum → BranchSum
branch_with taken None = record { times = sum_taken None taken }
branch_with taken (Some before) = record { times = sum_taken before.times taken }

abbrev pub with_item : ItemData → TestData → TestData
with_item (LineItem line count checksum) test = with_at Line (put nat_cmp line (line_with count (is_some checksum) (value_of nat_cmp line test.lines)) test.lines) test
with_item (FuncItem name line count) test = with_at Function (put (slice_cmp nat_cmp) name (function_with line count (value_of (slice_cmp nat_cmp) name test.functions)) test.functions) test
with_item (BranchItem line block branch taken) test =
    let point : BranchPoint = record { line = line; block = block; branch = branch } in
    with_at Branch (put branch_cmp point (branch_with taken (value_of branch_cmp point test.branches)) test.branches) test

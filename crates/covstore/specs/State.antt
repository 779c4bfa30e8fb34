-- What a store keeps: for each file its tests, for each test its points, and for each point how many tests have it. Also when
-- these files are the state of given rows.
use Rattle.std.specs.Prelude.{◌≡◌, ℕ, Bool, true, false, nat_lt, ◌&&◌, not, if◌then◌else◌, Option, Some, None, List, [], ◌∷◌, map, count_by, Contains}
use Rattle.std.specs.Cmp.Lexicographic.{slice_cmp}
use Rattle.std.specs.List.{flat_map, sum_by, AllByRecursion}
use Rattle.std.specs.Ordering.{nat_cmp}
use Rattle.covdata.specs.Points.{BranchPoint}
use Rattle.covdata.specs.Row.{Row}
use Rattle.covstore.specs.declared.sums.LineSum.{LineSum}
use Rattle.covstore.specs.declared.sums.FunctionSum.{FunctionSum}
use Rattle.covstore.specs.declared.sums.BranchSum.{BranchSum}
use Rattle.covtable.specs.declared.totals.Totals.{Totals}
use Rattle.covtable.specs.Clash.{Checksum, checksums_in}
use Rattle.covtable.specs.Content.{FunctionValueData, BranchValueData, LineValueData, SectionData}
use Rattle.covstore.specs.FileIndex.{FileIndexData, index_totals}
use Rattle.covstore.specs.PointIndexCounts.{AreCounts, found_of, hit_of, is_above_at}
use Rattle.covstore.specs.Kinds.{Branch, Function, Kind, Line, above_of, at, cmp_of}
use Rattle.covmap.specs.Puts.{ArePairs, value_of}
use Rattle.covstore.specs.Sums.{TestData, test_of}
use Rattle.covtable.specs.Value.{Key, items_at}

-- ---- one file

-- what is kept for a file: its tests, and its index
pub record FileData : Type 0 where
  pub tests : List (List ℕ × TestData)
  pub index : FileIndexData

abbrev pub file_with : List (List ℕ × TestData) → FileIndexData → FileData
file_with tests index = record { tests = tests; index = index }

abbrev pub has_checksum : LineSum → Bool
has_checksum sum = sum.has_checksum

-- the tests without their names
abbrev pub tests_in : FileData → List TestData
tests_in file = map (λ pair. pair.1) file.tests

-- how many of the tests hold a checksum of the line
abbrev pub holding : ℕ → List TestData → ℕ
holding line tests = count_by (λ test. is_above_at has_checksum (value_of nat_cmp line test.lines)) tests

-- how many of the tests hold a checksum of the line, or `None` if none does
abbrev pub holders_at : ℕ → List TestData → Option ℕ
holders_at line tests = if nat_lt 0 (holding line tests) then Some (holding line tests) else None

-- the index counts these tests: for each point, how many have it, and how many have it above 0; for each line, how many hold a
-- checksum of it
pub record IsIndexOf (tests : List TestData) (index : FileIndexData) : Type 0 where
  pub counts : (kind : Kind) → AreCounts (cmp_of kind) (above_of kind) (map (at kind) tests) (at kind index.counts)
  pub holders : (line : ℕ) → value_of nat_cmp line index.holders ≡ holders_at line tests

abbrev pub AreKept : List TestData → FileData → Type 0
AreKept tests file = IsIndexOf tests file.index

abbrev pub file_totals : FileData → Totals
file_totals file = index_totals file.index

-- ---- what contracts see of a file

-- a line's checksum, if the test holds one
abbrev pub text_at : List (ℕ × List ℕ) → ℕ → Bool → Option (List ℕ)
text_at texts line true = value_of nat_cmp line texts
text_at texts line false = None

abbrev pub line_seen : List (ℕ × List ℕ) → ℕ × LineSum → LineValueData
line_seen texts pair = record { line = pair.0; count = pair.1.count; checksum = text_at texts pair.0 pair.1.has_checksum }

abbrev pub function_seen : List ℕ × FunctionSum → FunctionValueData
function_seen pair = record { line = pair.1.line; name = pair.0; count = pair.1.count }

abbrev pub branch_seen : BranchPoint × BranchSum → BranchValueData
branch_seen pair = record { point = pair.0; taken = pair.1.times }

-- the section of a file and a test, with the test's points
abbrev pub section_with_points : List ℕ → List (ℕ × List ℕ) → List ℕ → TestData → SectionData
section_with_points file texts test points = record {
  key = record { file = file; test = test };
  functions = map function_seen points.functions;
  branches = map branch_seen points.branches;
  lines = map (line_seen texts) points.lines;
}

abbrev pub is_empty_list : {X : Type 0} → List X → Bool
is_empty_list [] = true
is_empty_list (x ∷ xs) = false

abbrev pub has_no_points : TestData → Bool
has_no_points points = is_empty_list points.lines && is_empty_list points.functions && is_empty_list points.branches

-- this section alone, or no section if the test has no points
abbrev pub section_seen : List ℕ → List (ℕ × List ℕ) → List ℕ → TestData → List SectionData
section_seen file texts test points = if has_no_points points then [] else section_with_points file texts test points ∷ []

abbrev pub sections_of_file : List ℕ × FileData → List SectionData
sections_of_file pair = flat_map (λ test. section_seen pair.0 pair.1.index.texts test.0 test.1) pair.1.tests

-- ---- all files

abbrev pub sections_of : List (List ℕ × FileData) → List SectionData
sections_of files = flat_map sections_of_file files

-- how many points of a kind a file has
abbrev pub found_at : Kind → List ℕ × FileData → ℕ
found_at kind pair = found_of (at kind pair.1.index.counts)

-- how many of a file's points of a kind are hit
abbrev pub hit_at : Kind → List ℕ × FileData → ℕ
hit_at kind pair = hit_of (at kind pair.1.index.counts)

abbrev pub totals_in : List (List ℕ × FileData) → Totals
totals_in files = record {
  lf = sum_by (found_at Line) files;
  lh = sum_by (hit_at Line) files;
  ff = sum_by (found_at Function) files;
  fh = sum_by (hit_at Function) files;
  bf = sum_by (found_at Branch) files;
  bh = sum_by (hit_at Branch) files;
}

-- the points of a test, or no points if there is no test
abbrev pub points_or_none : Option TestData → TestData
points_or_none None = test_of []
points_or_none (Some points) = points

-- the points of a test in a file, or no points if there is no file, or no such test in it
abbrev pub points_in : Option FileData → List ℕ → TestData
points_in None test = test_of []
points_in (Some file) test = points_or_none (value_of (slice_cmp nat_cmp) test file.tests)

-- the points of a test in one of these files, or no points if the file or the test isn't there
abbrev pub points_at : Key → List (List ℕ × FileData) → TestData
points_at key files = points_in (value_of (slice_cmp nat_cmp) key.file files) key.test

-- the test has points in the file
abbrev pub has_points_of : List ℕ → FileData → Bool
has_points_of test file = not (has_no_points (points_in (Some file) test))

-- the checksum that a file keeps for a line. It may be one that no test holds any more
abbrev pub text_in : Option FileData → ℕ → Option (List ℕ)
text_in None line = None
text_in (Some file) line = value_of nat_cmp line file.index.texts

-- a file is consistent: its tests ascend, and its index counts them
pub record IsConsistentFile (file : FileData) : Type 0 where
  pub ascending : ArePairs (slice_cmp nat_cmp) file.tests
  pub kept : AreKept (tests_in file) file

-- the files are what the rows add up to. Each test of a file has the points of its items, with their values. Each checksum of the
-- rows is kept for its line. The index of each file counts the file's tests. Files and tests without points may be there too
pub record IsStateOf (rows : List Row) (files : List (List ℕ × FileData)) : Type 0 where
  pub ascending : ArePairs (slice_cmp nat_cmp) files
  pub points : (key : Key) → points_at key files ≡ test_of (items_at key rows)
  pub texts : (checksum : Checksum) → Contains (checksums_in rows) checksum → text_in (value_of (slice_cmp nat_cmp) checksum.file files) checksum.line ≡ Some checksum.checksum
  pub whole : AllByRecursion (λ pair. IsConsistentFile pair.1) files

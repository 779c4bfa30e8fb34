-- The totals of sections. Each point of a file counts once, however many tests have it. It is hit if some test has it above 0.
use Rattle.std.specs.Prelude.{ℕ, ◌≤◌, Bool, ◌==◌, ◌&&◌, nat_lt, List, length, map, filter, count_by}
use Rattle.std.specs.Ordering.{nat_cmp}
use Rattle.std.specs.Cmp.Lexicographic.{slice_cmp}
use Rattle.std.specs.Str.{bytes_eq}
use Rattle.std.specs.List.{flat_map, sum_by, list_any}
use Rattle.covdata.specs.Points.{BranchPoint}
use Rattle.covtable.specs.declared.totals.Totals.{Totals}
use Rattle.covtable.specs.Ascending.{ascending}
use Rattle.covtable.specs.Content.{SectionData}
use Rattle.covtable.specs.Value.{branch_cmp, is_branch, is_taken}

-- the files of the sections, each once
abbrev pub files_in : List SectionData → List (List ℕ)
files_in sections = ascending (slice_cmp nat_cmp) (map (λ s. s.key.file) sections)

-- the sections of a file, over all tests
abbrev pub own_sections : List ℕ → List SectionData → List SectionData
own_sections file sections = filter (λ s. bytes_eq s.key.file file) sections

-- the lines of a file's sections, each once
abbrev pub lines_found : List SectionData → List ℕ
lines_found sections = ascending nat_cmp (flat_map (λ s. map (λ l. l.line) s.lines) sections)

-- some section has the line with a count above 0
abbrev pub is_line_hit : List SectionData → ℕ → Bool
is_line_hit sections line = list_any (λ s. list_any (λ l. l.line == line && nat_lt 0 l.count) s.lines) sections

-- the names of the functions of a file's sections, each once
abbrev pub functions_found : List SectionData → List (List ℕ)
functions_found sections = ascending (slice_cmp nat_cmp) (flat_map (λ s. map (λ f. f.name) s.functions) sections)

-- some section has the function with a count above 0
abbrev pub is_function_hit : List SectionData → List ℕ → Bool
is_function_hit sections name = list_any (λ s. list_any (λ f. bytes_eq f.name name && nat_lt 0 f.count) s.functions) sections

-- the branches of a file's sections, each once
abbrev pub branches_found : List SectionData → List BranchPoint
branches_found sections = ascending branch_cmp (flat_map (λ s. map (λ b. b.point) s.branches) sections)

-- some section has the branch, taken at least once
abbrev pub is_branch_hit : List SectionData → BranchPoint → Bool
is_branch_hit sections point =
    list_any (λ s. list_any (λ b. is_branch point b.point.line b.point.block b.point.branch && is_taken b.taken) s.branches) sections

-- the sum over all files of what `count` gives for the sections of the file
abbrev pub over_files : (List SectionData → ℕ) → List SectionData → ℕ
over_files count sections = sum_by (λ file. count (own_sections file sections)) (files_in sections)

abbrev pub totals_of : List SectionData → Totals
totals_of sections = record {
  lf = over_files (λ own. length (lines_found own)) sections;
  lh = over_files (λ own. count_by (is_line_hit own) (lines_found own)) sections;
  ff = over_files (λ own. length (functions_found own)) sections;
  fh = over_files (λ own. count_by (is_function_hit own) (functions_found own)) sections;
  bf = over_files (λ own. length (branches_found own)) sections;
  bh = over_files (λ own. count_by (is_branch_hit own) (branches_found own)) sections;
}

-- for each kind, no more points are hit than found
pub record AreTotals (totals : Totals) : Type 0 where
  pub lines : totals.lh ≤ totals.lf
  pub functions : totals.fh ≤ totals.ff
  pub branches : totals.bh ≤ totals.bf

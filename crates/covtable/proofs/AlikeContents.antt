-- Rows that are alike and whose checksums agree add up to the same.
use Rattle.std.proofs.Common.{◌≡◌, ℕ, List, map, filter, ap}
use Rattle.std.specs.Cmp.Lexicographic.{slice_cmp}
use Rattle.std.specs.List.{flat_map}
use Rattle.std.specs.Prelude.{Contains}
use Rattle.std.specs.List.Sorted.{IsPermutation}
use Rattle.std.specs.Ordering.{nat_cmp}
use Rattle.covdata.specs.Points.{BranchPoint, line_point, func_point, branch_point, line_points, func_points, branch_points}
use Rattle.covdata.specs.Row.{ItemData, Row}
use Rattle.covtable.specs.Clash.{Checksum, Agree, checksum_of_row, checksums_in}
use Rattle.covtable.specs.Content.{section_with, section_of, content_of, function_at, branch_at, line_at}
use Rattle.covtable.specs.Table.{Table, all_rows}
use Rattle.covtable.specs.Value.{bounded, Key, key_cmp, key_of_row, has_key, items_at, branch_cmp, checksum_said, line_added, start_said, function_added, taken_said}
use Rattle.covtable.proofs.Alike.{AreAlike, alike_permuted, alike_mapped, alike_said, alike_picked, first_alike, sum_alike, least_alike, same_mapped}
use Rattle.covtable.proofs.ContentsChecksums.{one_said}
use Rattle.covtable.proofs.ContentsPoints.{same_line, same_function, same_branch}
use Rattle.covtable.proofs.ContentsSections.{same_section}
use Rattle.covtable.proofs.Members.{In, In-from, Contains-from}
use Rattle.covtable.proofs.Orders.{lines_order, names_order, branches_order, keys_order}

-- ---- the items of a file and a test

module _ (xs ys : List ItemData) (alike : AreAlike xs ys) where
  line_alike : (line : ℕ) → ((a b : List ℕ) → In a (flat_map (checksum_said line) xs) → In b (flat_map (checksum_said line) xs) → a ≡ b) → line_at xs line ≡ line_at ys line
  line_alike line one =
      same_line line xs ys (ap bounded (alike.sums (line_added line)))
      (first_alike (flat_map (checksum_said line) xs) (flat_map (checksum_said line) ys) (alike_said (checksum_said line) xs ys alike) one)

  function_alike : (name : List ℕ) → function_at xs name ≡ function_at ys name
  function_alike name =
      same_function name xs ys
      (least_alike (flat_map (start_said name) xs) (flat_map (start_said name) ys) (alike_said (start_said name) xs ys alike))
      (ap bounded (alike.sums (function_added name)))

  branch_alike : (point : BranchPoint) → branch_at xs point ≡ branch_at ys point
  branch_alike point =
      same_branch point xs ys (sum_alike (flat_map (taken_said point) xs) (flat_map (taken_said point) ys) (alike_said (taken_said point) xs ys alike))

  section_alike : (key : Key) → ((line : ℕ) (a b : List ℕ) → In a (flat_map (checksum_said line) xs) → In b (flat_map (checksum_said line) xs) → a ≡ b) → section_with key xs ≡ section_with key ys
  section_alike key one =
      same_section key xs ys
      (same_mapped (slice_cmp nat_cmp) names_order (func_points xs) (func_points ys) (function_at xs) (function_at ys) (alike_said func_point xs ys alike) function_alike)
      (same_mapped branch_cmp branches_order (branch_points xs) (branch_points ys) (branch_at xs) (branch_at ys) (alike_said branch_point xs ys alike) branch_alike)
      (same_mapped nat_cmp lines_order (line_points xs) (line_points ys) (line_at xs) (line_at ys) (alike_said line_point xs ys alike) (λ line. line_alike line (one line)))

-- ---- rows

module _ (rows others : List Row) (alike : AreAlike rows others) (agree : Agree (checksums_in rows)) where
  items_alike : (key : Key) → AreAlike (items_at key rows) (items_at key others)
  items_alike key = alike_mapped (λ (row : Row). row.item) (filter (has_key key) rows) (filter (has_key key) others) (alike_picked (has_key key) rows others alike)

  pub content_alike : content_of rows ≡ content_of others
  content_alike =
      same_mapped key_cmp keys_order (map key_of_row rows) (map key_of_row others) (section_of rows) (section_of others) (alike_mapped key_of_row rows others alike)
      (λ key. section_alike (items_at key rows) (items_at key others) (items_alike key) key (one_said rows agree key))

  pub agree_alike : Agree (checksums_in others)
  agree_alike a b i j = agree a b (in_rows a i) (in_rows b j)
    where
      in_rows : (c : Checksum) → Contains (checksums_in others) c → Contains (checksums_in rows) c
      in_rows c k = Contains-from (checksums_in rows) c ((alike_said checksum_of_row rows others alike).back c (In-from (checksums_in others) c k))

-- the rows of a table and of the same table in another order are alike
pub rows_alike : (table others : Table) → IsPermutation table others → AreAlike (all_rows table) (all_rows others)
rows_alike table others permuted = alike_said (λ (rows : List Row). rows) table others (alike_permuted table others permuted)

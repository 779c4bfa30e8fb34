-- Alike items add up to the same.
use Rattle.covstore.proofs.Words.{◌≡◌, ℕ, Option, unwrap_or, List, [], ◌∷◌, ◌++◌, map, refl, ap, inl, slice_cmp, flat_map, nat_cmp, BranchPoint, line_point, func_point, branch_point, line_points, func_points, branch_points, ItemData, branch_sum, function_sum, line_sum, test_of, lines_in, names_in, branches_in, bounded, branch_cmp, line_added, line_value, checksum_said, line_checksum, first_of, start_said, function_start, function_added, function_count, taken_said, branch_value, lines_order, names_order, branches_order}
use Rattle.std.specs.Option.{is_some}
use Rattle.std.proofs.lemmas.List.Sorted.{IsPermutation-append_comm}
use Rattle.covtable.proofs.Alike.{AreAlike, alike_permuted, alike_said, sum_alike, least_alike, same_mapped}
use Rattle.covstore.proofs.EachKind.{same_test}

-- two lists of items add up to the same if they do for each kind
pub same_sums : (xs ys : List ItemData) → map (line_sum xs) (lines_in xs) ≡ map (line_sum ys) (lines_in ys) → map (function_sum xs) (names_in xs) ≡ map (function_sum ys) (names_in ys)
    → map (branch_sum xs) (branches_in xs) ≡ map (branch_sum ys) (branches_in ys) → test_of xs ≡ test_of ys
same_sums xs ys lines functions branches = same_test (test_of xs) (test_of ys) lines functions branches

-- a line has the same sum in two lists of items if each part of the sum is the same. Likewise a function and a branch
pub same_line_sum : (line : ℕ) (xs ys : List ItemData) → line_value line xs ≡ line_value line ys → is_some (line_checksum line xs) ≡ is_some (line_checksum line ys) → line_sum xs line ≡ line_sum ys line
same_line_sum line xs ys count checksum = λ i. (line, record { count = count i; has_checksum = checksum i })

pub same_function_sum : (name : List ℕ) (xs ys : List ItemData) → function_start name xs ≡ function_start name ys → function_count name xs ≡ function_count name ys → function_sum xs name ≡ function_sum ys name
same_function_sum name xs ys line count = λ i. (name, record { line = line i; count = count i })

pub same_branch_sum : (point : BranchPoint) (xs ys : List ItemData) → branch_value point xs ≡ branch_value point ys → branch_sum xs point ≡ branch_sum ys point
same_branch_sum point xs ys times = λ i. (point, record { times = times i })

-- of two alike lists, both have a first element, or neither has
first_or_none : {X : Type 0} (xs ys : List X) → AreAlike xs ys → is_some (first_of xs) ≡ is_some (first_of ys)
first_or_none [] [] alike = refl
first_or_none [] (y ∷ ys) alike = absurd (alike.back y (inl refl))
first_or_none (x ∷ xs) [] alike = absurd (alike.there x (inl refl))
first_or_none (x ∷ xs) (y ∷ ys) alike = refl

module _ (xs ys : List ItemData) (alike : AreAlike xs ys) where
  line_alike : (line : ℕ) → line_sum xs line ≡ line_sum ys line
  line_alike line =
      same_line_sum line xs ys (ap bounded (alike.sums (line_added line)))
      (first_or_none (flat_map (checksum_said line) xs) (flat_map (checksum_said line) ys) (alike_said (checksum_said line) xs ys alike))

  function_alike : (name : List ℕ) → function_sum xs name ≡ function_sum ys name
  function_alike name =
      same_function_sum name xs ys
      (ap (λ (o : Option ℕ). unwrap_or o 0) (least_alike (flat_map (start_said name) xs) (flat_map (start_said name) ys) (alike_said (start_said name) xs ys alike)))
      (ap bounded (alike.sums (function_added name)))

  branch_alike : (point : BranchPoint) → branch_sum xs point ≡ branch_sum ys point
  branch_alike point =
      same_branch_sum point xs ys (sum_alike (flat_map (taken_said point) xs) (flat_map (taken_said point) ys) (alike_said (taken_said point) xs ys alike))

  -- alike items add up to the same
  pub test_alike : test_of xs ≡ test_of ys
  test_alike =
      same_sums xs ys
      (same_mapped nat_cmp lines_order (line_points xs) (line_points ys) (line_sum xs) (line_sum ys) (alike_said line_point xs ys alike) line_alike)
      (same_mapped (slice_cmp nat_cmp) names_order (func_points xs) (func_points ys) (function_sum xs) (function_sum ys) (alike_said func_point xs ys alike) function_alike)
      (same_mapped branch_cmp branches_order (branch_points xs) (branch_points ys) (branch_sum xs) (branch_sum ys) (alike_said branch_point xs ys alike) branch_alike)

-- two lists of items add up to the same in either order
pub tests_swapped : (xs ys : List ItemData) → test_of (xs ++ ys) ≡ test_of (ys ++ xs)
tests_swapped xs ys = test_alike (xs ++ ys) (ys ++ xs) (alike_permuted (xs ++ ys) (ys ++ xs) (IsPermutation-append_comm xs ys))

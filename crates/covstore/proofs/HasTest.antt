-- The tests that have sections: those that have points in some file.
use Rattle.covstore.proofs.Words.{◌≡◌, ℕ, Bool, true, false, cond, not, ◌&&◌, ◌||◌, Option, Some, None, List, [], ◌∷◌, length, arith, refl, sym, ap, ◌∙◌, subst, IsTrue, ◌↔◌, slice_cmp, AllByRecursion, flat_map, list_any, values_of, is_eq, nat_cmp, bytes_eq, tells_apart, BranchPoint, LineSum, SectionData, ArePairs, value_of, FileData, IsConsistentFile, has_no_points, is_empty_list, has_points_of, points_or_none, section_seen, section_with_points, sections_of, sections_of_file, TestData, names_order}
use Rattle.std.proofs.lemmas.List.Folds.{list_any-append}
use Rattle.std.proofs.lemmas.Map.Text.{is_eq-slice_cmp}
use Rattle.covstore.specs.declared.sums.FunctionSum.{FunctionSum}
use Rattle.covstore.specs.declared.sums.BranchSum.{BranchSum}
use Rattle.covstore.proofs.MapNames.{names_with}
use Rattle.covstore.proofs.Puts.{value_of_before}

abbrev of_test : List ℕ → SectionData → Bool
of_test test s = bytes_eq s.key.test test

-- ---- one test

module _ (test : List ℕ) where
  never : (b : Bool) → false ≡ b && false
  never true = refl
  never false = refl

  once : (b : Bool) → b || false ≡ b && true
  once true = refl
  once false = refl

  seen_at : (name : List ℕ) (section : SectionData) (none : Bool) → section.key.test ≡ name → list_any (of_test test) (cond none [] (section ∷ [])) ≡ bytes_eq name test && not none
  seen_at name section true e = never (bytes_eq name test)
  seen_at name section false e = once (bytes_eq section.key.test test) ∙ ap (λ (n : List ℕ). bytes_eq n test && true) e

  abbrev points_of_test : List ℕ × TestData → Bool
  points_of_test pair = bytes_eq pair.0 test && not (has_no_points pair.1)

  -- ---- the tests of a file

  any_seen : (file : List ℕ) (texts : List (ℕ × List ℕ)) (tests : List (List ℕ × TestData)) → list_any (of_test test) (flat_map (λ pair. section_seen file texts pair.0 pair.1) tests) ≡ list_any points_of_test tests
  any_seen file texts [] = refl
  any_seen file texts (pair ∷ tests) =
      list_any-append (of_test test) (section_seen file texts pair.0 pair.1) (flat_map (λ pair. section_seen file texts pair.0 pair.1) tests)
      ∙ ap (λ (b : Bool). b || list_any (of_test test) (flat_map (λ pair. section_seen file texts pair.0 pair.1) tests)) (seen_at pair.0 (section_with_points file texts pair.0 pair.1) (has_no_points pair.1) refl)
      ∙ ap (λ (b : Bool). points_of_test pair || b) (any_seen file texts tests)

  abbrev points_found : Option TestData → Bool
  points_found found = not (has_no_points (points_or_none found))

  -- the first of ascending tests, and the later ones: if the first one has the name, no later one has it
  found_at : (same : Bool) (points : TestData) (rest : Bool) (later : Option TestData) → rest ≡ points_found later → (same ≡ true → later ≡ None)
      → (same && not (has_no_points points)) || rest ≡ points_found (cond same (Some points) later)
  found_at true points rest later e none = last (not (has_no_points points)) (e ∙ ap points_found (none refl))
    where
      last : (b : Bool) → rest ≡ false → b || rest ≡ b
      last true e = refl
      last false e = e
  found_at false points rest later e none = e

  any_found : (tests : List (List ℕ × TestData)) → ArePairs (slice_cmp nat_cmp) tests → list_any points_of_test tests ≡ points_found (value_of (slice_cmp nat_cmp) test tests)
  any_found [] sorted = refl
  any_found (pair ∷ tests) sorted =
      ap (λ (b : Bool). (b && not (has_no_points pair.1)) || list_any points_of_test tests) (sym (is_eq-slice_cmp pair.0 test))
      ∙ found_at (is_eq (slice_cmp nat_cmp pair.0 test)) pair.1 (list_any points_of_test tests) (value_of (slice_cmp nat_cmp) test tests) (any_found tests sorted.1)
      (λ e. subst (λ (name : List ℕ). value_of (slice_cmp nat_cmp) name tests ≡ None) (tells_apart names_order.exact pair.0 test e) (value_of_before names_order pair.0 tests sorted.0))

  any_in_file : (pair : List ℕ × FileData) → IsConsistentFile pair.1 → list_any (of_test test) (sections_of_file pair) ≡ has_points_of test pair.1
  any_in_file pair whole = any_seen pair.0 pair.1.index.texts pair.1.tests ∙ any_found pair.1.tests whole.ascending

  -- ---- the files

  pub any_in_files : (files : List (List ℕ × FileData)) → AllByRecursion (λ pair. IsConsistentFile pair.1) files → list_any (of_test test) (sections_of files) ≡ list_any (λ pair. has_points_of test pair.1) files
  any_in_files [] whole = refl
  any_in_files (pair ∷ files) whole =
      list_any-append (of_test test) (sections_of_file pair) (sections_of files)
      ∙ ap (λ (b : Bool). b || list_any (of_test test) (sections_of files)) (any_in_file pair whole.0)
      ∙ ap (λ (b : Bool). has_points_of test pair.1 || b) (any_in_files files whole.1)

-- ---- from the code's values to plain data

-- a condition is true of some value of a map exactly if it is true of some of the values seen as plain data
pub any_named : {K X Y : Type 0} (p : Y → Bool) (f : X → Y) (name : K → List ℕ) (pairs : List (K × X)) → list_any (λ x. p (f x)) (values_of pairs) ≡ list_any (λ pair. p pair.1) (names_with name f pairs)
any_named p f name [] = refl
any_named p f name (pair ∷ pairs) = ap (λ (b : Bool). p (f pair.1) || b) (any_named p f name pairs)

-- a truth value that is true exactly if a list is empty is `is_empty_list` of the list
pub none_as : {X : Type 0} (xs : List X) (b : Bool) → IsTrue b ↔ (xs ≡ []) → b ≡ is_empty_list xs
none_as [] b is = is.1 refl
none_as (x ∷ xs) true is = absurd (cons-nil x xs (is.0 refl))
  where
    cons-nil : {X : Type 0} (x : X) (xs : List X) → x ∷ xs ≡ [] → ⊥
    cons-nil x xs e = let lengths = ap length e in omega (arith, lengths)
none_as (x ∷ xs) false is = refl

pub no_points : (lines : List (ℕ × LineSum)) (functions : List (List ℕ × FunctionSum)) (branches : List (BranchPoint × BranchSum)) (b : Bool) → lines ≡ [] → functions ≡ [] → IsTrue b ↔ (branches ≡ [])
    → b ≡ is_empty_list lines && is_empty_list functions && is_empty_list branches
no_points lines functions branches b no_lines no_functions is =
    none_as branches b is
    ∙ ap (λ (xs : List (List ℕ × FunctionSum)). is_empty_list xs && is_empty_list branches) (sym no_functions)
    ∙ ap (λ (xs : List (ℕ × LineSum)). is_empty_list xs && is_empty_list functions && is_empty_list branches) (sym no_lines)

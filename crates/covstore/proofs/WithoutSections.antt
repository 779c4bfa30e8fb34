-- How many sections a test has: as many as there are files in which it has points.
use Rattle.covstore.proofs.Words.{◌≡◌, ℕ, ◌+◌, Bool, true, false, cond, not, ◌&&◌, Option, Some, None, List, [], ◌∷◌, refl, sym, ap, ◌∙◌, subst, arith, slice_cmp, AllByRecursion, flat_map, is_eq, nat_cmp, bytes_eq, sum_by-append, sum_by-cons, tells_apart, SectionData, ArePairs, value_of, FileData, IsConsistentFile, has_no_points, has_points_of, points_or_none, section_seen, section_with_points, sections_of, sections_of_file, TestData, names_order}
use Rattle.std.specs.List.{count_by}
use Rattle.std.proofs.lemmas.Map.Text.{is_eq-slice_cmp}
use Rattle.covstore.proofs.Puts.{value_of_before}

abbrev of_test : List ℕ → SectionData → Bool
of_test test s = bytes_eq s.key.test test

abbrev one_for : Bool → ℕ
one_for b = cond b 1 0

module _ (test : List ℕ) where
  abbrev count_of : List SectionData → ℕ
  count_of sections = count_by (of_test test) sections

  abbrev points_of_test : List ℕ × TestData → Bool
  points_of_test pair = bytes_eq pair.0 test && not (has_no_points pair.1)

  -- ---- one test

  never : (b : Bool) → 0 ≡ one_for (b && false)
  never true = refl
  never false = refl

  once : (b : Bool) → 0 + one_for b ≡ one_for (b && true)
  once true = refl
  once false = refl

  count_seen_at : (name : List ℕ) (section : SectionData) (none : Bool) → section.key.test ≡ name → count_of (cond none [] (section ∷ [])) ≡ one_for (bytes_eq name test && not none)
  count_seen_at name section true e = never (bytes_eq name test)
  count_seen_at name section false e = once (bytes_eq section.key.test test) ∙ ap (λ (n : List ℕ). one_for (bytes_eq n test && true)) e

  -- ---- the tests of a file

  count_seen : (file : List ℕ) (texts : List (ℕ × List ℕ)) (tests : List (List ℕ × TestData)) → count_of (flat_map (λ pair. section_seen file texts pair.0 pair.1) tests) ≡ count_by points_of_test tests
  count_seen file texts [] = refl
  count_seen file texts (pair ∷ tests) =
      sum_by-append (λ s. one_for (of_test test s)) (section_seen file texts pair.0 pair.1) (flat_map (λ pair. section_seen file texts pair.0 pair.1) tests)
      ∙ ap (λ (n : ℕ). n + count_of (flat_map (λ pair. section_seen file texts pair.0 pair.1) tests)) (count_seen_at pair.0 (section_with_points file texts pair.0 pair.1) (has_no_points pair.1) refl)
      ∙ ap (λ (n : ℕ). one_for (points_of_test pair) + n) (count_seen file texts tests)
      ∙ sym (sum_by-cons (λ p. one_for (points_of_test p)) pair tests)

  abbrev points_found : Option TestData → Bool
  points_found found = not (has_no_points (points_or_none found))

  -- the first of ascending tests, and the later ones: if the first one has the name, no later one has it
  found_at : (same : Bool) (points : TestData) (rest : ℕ) (later : Option TestData) → rest ≡ one_for (points_found later) → (same ≡ true → later ≡ None)
      → one_for (same && not (has_no_points points)) + rest ≡ one_for (points_found (cond same (Some points) later))
  found_at true points rest later e none = let nothing : rest ≡ 0 = e ∙ ap (λ (found : Option TestData). one_for (points_found found)) (none refl) in omega (arith, nothing)
  found_at false points rest later e none = omega (arith, e)

  count_found : (tests : List (List ℕ × TestData)) → ArePairs (slice_cmp nat_cmp) tests → count_by points_of_test tests ≡ one_for (points_found (value_of (slice_cmp nat_cmp) test tests))
  count_found [] sorted = refl
  count_found (pair ∷ tests) sorted =
      sum_by-cons (λ p. one_for (points_of_test p)) pair tests
      ∙ ap (λ (b : Bool). one_for (b && not (has_no_points pair.1)) + count_by points_of_test tests) (sym (is_eq-slice_cmp pair.0 test))
      ∙ found_at (is_eq (slice_cmp nat_cmp pair.0 test)) pair.1 (count_by points_of_test tests) (value_of (slice_cmp nat_cmp) test tests) (count_found tests sorted.1)
      (λ e. subst (λ (name : List ℕ). value_of (slice_cmp nat_cmp) name tests ≡ None) (tells_apart names_order.exact pair.0 test e) (value_of_before names_order pair.0 tests sorted.0))

  -- ---- the files

  pub count_in_files : (files : List (List ℕ × FileData)) → AllByRecursion (λ pair. IsConsistentFile pair.1) files → count_by (λ pair. has_points_of test pair.1) files ≡ count_of (sections_of files)
  count_in_files [] whole = refl
  count_in_files (pair ∷ files) whole =
      sum_by-cons (λ p. one_for (has_points_of test p.1)) pair files
      ∙ ap (λ (n : ℕ). one_for (has_points_of test pair.1) + n) (count_in_files files whole.1)
      ∙ ap (λ (n : ℕ). n + count_of (sections_of files)) (sym (count_seen pair.0 pair.1.index.texts pair.1.tests ∙ count_found pair.1.tests whole.0.ascending))
      ∙ sym (sum_by-append (λ s. one_for (of_test test s)) (sections_of_file pair) (sections_of files))

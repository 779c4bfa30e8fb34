-- One test loses a point: the new counts are those of the other tests.
use Rattle.covstore.proofs.Words.{◌≡◌, ℕ, ◌+◌, ◌-◌, ◌<◌, ◌≤◌, Bool, true, false, nat_lt, Option, Some, None, List, [], ◌∷◌, refl, sym, ap, ◌∙◌, subst, arith, Ordering, is_eq, cond-true, cond-false, lt-ltb, ltb-true, ltb-false, TestCounts, AreCounts, count_above, count_with, one_if, tests_at, CanLose, counts_without, fewer_of, fewer_tests, ArePairs, value_of, IsExactOrder}
use Rattle.covstore.proofs.Assigned.{ArePairs-assigned, any_key, apart_assigned, own_assigned}
use Rattle.covstore.proofs.Counts.{above_le_with, same_tests, tests_among, tests_at-between, test_counts_of}
use Rattle.covstore.proofs.Puts.{same_pairs, value_of_before, value_of_first, value_of_later}

-- ---- the numbers of one point

abbrev numbers : ℕ → ℕ → TestCounts
numbers tests hit = record { tests = tests; hit = hit }

some_tests : (tests hit : ℕ) → 0 < tests → test_counts_of tests hit ≡ Some (numbers tests hit)
some_tests tests hit more = cond-true (nat_lt 0 tests) (Some (numbers tests hit)) None (lt-ltb 0 tests more)

fewer_by : (above : Bool) (tests hit : ℕ) (is : Bool) → nat_lt 0 tests ≡ is → fewer_tests above (numbers (tests + 1) (hit + one_if above)) ≡ test_counts_of tests hit
fewer_by above tests hit true e =
    let one : tests + 1 - 1 ≡ tests = omega arith in
    let own : hit + one_if above - one_if above ≡ hit = omega arith in
    cond-true (nat_lt 1 (tests + 1)) (Some (numbers (tests + 1 - 1) (hit + one_if above - one_if above))) None (lt-ltb 1 (tests + 1) (omega (arith, ltb-true 0 tests e)))
    ∙ ap (λ (n : ℕ). Some (numbers n (hit + one_if above - one_if above))) one ∙ ap (λ (n : ℕ). Some (numbers tests n)) own
    ∙ sym (cond-true (nat_lt 0 tests) (Some (numbers tests hit)) None e)
fewer_by above tests hit false e =
    let none : tests ≡ 0 = omega (arith, ltb-false 0 tests e) in
    cond-false (nat_lt 1 (tests + 1)) (Some (numbers (tests + 1 - 1) (hit + one_if above - one_if above))) None (ap (λ (n : ℕ). nat_lt 1 (n + 1)) none)
    ∙ sym (cond-false (nat_lt 0 tests) (Some (numbers tests hit)) None e)

-- one more test and then one less leaves the numbers as they were
fewer_more : (above : Bool) (tests hit : ℕ) → fewer_of above (test_counts_of (tests + 1) (hit + one_if above)) ≡ test_counts_of tests hit
fewer_more above tests hit = ap (fewer_of above) (some_tests (tests + 1) (hit + one_if above) (omega arith)) ∙ fewer_by above tests hit (nat_lt 0 tests) refl

can_more : (above : Bool) (tests hit : ℕ) → hit ≤ tests → CanLose above (test_counts_of (tests + 1) (hit + one_if above))
can_more above tests hit less = subst (CanLose above) (sym (some_tests (tests + 1) (hit + one_if above) (omega arith))) (omega arith, omega (arith, less))

-- ---- among the numbers of all points

module _ {K V : Type 0} {cmp : K → K → Ordering} (o : IsExactOrder cmp) {is_above : V → Bool} where
  -- the numbers of a point, by its value in the test that is dropped
  numbers_with : (points : List (K × V)) (others : List (List (K × V))) (counts : List (K × TestCounts)) → AreCounts cmp is_above (points ∷ others) counts → (key : K) (value : Option V) → value_of cmp key points ≡ value
      → value_of cmp key counts ≡ tests_among is_above (count_with cmp key others) (count_above cmp is_above key others) value
  numbers_with points others counts are key value e =
      are.counted key ∙ tests_at-between cmp is_above key [] points others ∙ ap (tests_among is_above (count_with cmp key others) (count_above cmp is_above key others)) e

  -- the point is counted at least once
  pub can_lose : (points : List (K × V)) (others : List (List (K × V))) (counts : List (K × TestCounts)) → AreCounts cmp is_above (points ∷ others) counts → (key : K) (value : V) → value_of cmp key points ≡ Some value
      → CanLose (is_above value) (value_of cmp key counts)
  can_lose points others counts are key value e =
      subst (CanLose (is_above value)) (sym (numbers_with points others counts are key (Some value) e))
      (can_more (is_above value) (count_with cmp key others) (count_above cmp is_above key others) (above_le_with cmp is_above key others))

  -- a point has the same numbers in two counts if the only test that differs has the same value at the point
  pub same_numbers : (points left : List (K × V)) (others : List (List (K × V))) (counts fewer : List (K × TestCounts)) → AreCounts cmp is_above (points ∷ others) counts → AreCounts cmp is_above (left ∷ others) fewer
      → (key : K) (value : V) → value_of cmp key points ≡ Some value → value_of cmp key left ≡ Some value → value_of cmp key fewer ≡ value_of cmp key counts
  same_numbers points left others counts fewer are own key value e f =
      numbers_with left others fewer own key (Some value) f ∙ sym (numbers_with points others counts are key (Some value) e)

  -- the test loses its first point
  module _ (key : K) (value : V) (left : List (K × V)) (sorted : ArePairs cmp ((key, value) ∷ left)) (others : List (List (K × V))) (counts : List (K × TestCounts)) (are : AreCounts cmp is_above (((key, value) ∷ left) ∷ others) counts) where
    fewer_own : value_of cmp key (counts_without cmp key (is_above value) counts) ≡ tests_at cmp is_above key (left ∷ others)
    fewer_own =
        let with_it = count_with cmp key others in
        let above = count_above cmp is_above key others in
        own_assigned o key (fewer_of (is_above value) (value_of cmp key counts)) counts
        ∙ ap (fewer_of (is_above value)) (numbers_with ((key, value) ∷ left) others counts are key (Some value) (value_of_first o key value left))
        ∙ fewer_more (is_above value) with_it above
        ∙ same_tests {tests = with_it} {others = with_it + 0} {hit = above} {above = above + 0} (omega arith) (omega arith)
        ∙ ap (tests_among is_above with_it above) (sym (value_of_before o key left sorted.0))
        ∙ sym (tests_at-between cmp is_above key [] left others)

    fewer_apart : (other : K) → is_eq (cmp key other) ≡ false → value_of cmp other (counts_without cmp key (is_above value) counts) ≡ tests_at cmp is_above other (left ∷ others)
    fewer_apart other apart =
        apart_assigned o key other (fewer_of (is_above value) (value_of cmp key counts)) counts apart
        ∙ numbers_with ((key, value) ∷ left) others counts are other (value_of cmp other left) (value_of_later o other (key, value) left apart)
        ∙ sym (tests_at-between cmp is_above other [] left others)

    pub counts_fewer : AreCounts cmp is_above (left ∷ others) (counts_without cmp key (is_above value) counts)
    counts_fewer = record {
      ascending = ArePairs-assigned o key (fewer_of (is_above value) (value_of cmp key counts)) counts are.ascending;
      counted = any_key o (λ (other : K). value_of cmp other (counts_without cmp key (is_above value) counts) ≡ tests_at cmp is_above other (left ∷ others)) key fewer_own fewer_apart;
    }

  -- ---- a whole test

  -- the other tests have only one list of counts
  pub one_rest : (others : List (List (K × V))) (rest counts : List (K × TestCounts)) → AreCounts cmp is_above others rest → AreCounts cmp is_above others counts → rest ≡ counts
  one_rest others rest counts left right = same_pairs o rest counts left.ascending right.ascending (λ key. left.counted key ∙ sym (right.counted key))

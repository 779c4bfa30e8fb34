-- A value put into one test: the new counts are those of the tests.
use Rattle.covstore.proofs.Words.{◌≡◌, ℕ, ◌+◌, ◌<◌, ◌≤◌, Bool, true, false, ◌&&◌, not, if◌then◌else◌, nat_lt, Option, Some, None, List, ◌∷◌, ◌++◌, refl, sym, ap, ◌∙◌, subst, ⊎_elim, arith, Ordering, is_eq, cases_Bool, cond-true, false≢true, lt-ltb, ltb-false, tells_apart, TestCounts, AreCounts, count_above, count_with, counts_with, is_above_at, is_new, is_newly_hit, one_if, tests_at, tests_more, ArePairs, put, value_of, IsExactOrder}
use Rattle.covstore.proofs.Counts.{above_le_with, same_tests, tests_among, tests_at-between, test_counts_of}
use Rattle.covstore.proofs.Puts.{ArePairs-put, value_of-put, value_of-put_apart}

-- ---- the numbers of the point itself

-- one more test has the point, or has it above 0
more_at : (new newly : Bool) (tests hit : ℕ) (is : Bool) → nat_lt 0 tests ≡ is → hit ≤ tests → 0 < tests + one_if new
    → Some (tests_more new newly (if is then Some (record { tests = tests; hit = hit }) else None)) ≡ test_counts_of (tests + one_if new) (hit + one_if newly)
more_at new newly tests hit true e less some =
    sym (cond-true (nat_lt 0 (tests + one_if new)) (Some (record { tests = tests + one_if new; hit = hit + one_if newly })) None (lt-ltb 0 (tests + one_if new) some))
more_at new newly tests hit false e less some =
    let none : tests ≤ 0 = ltb-false 0 tests e in
    let all : one_if new ≡ tests + one_if new = omega arith in
    let above : one_if newly ≡ hit + one_if newly = omega arith in
    sym (cond-true (nat_lt 0 (one_if new)) (Some (record { tests = one_if new; hit = one_if newly })) None (lt-ltb 0 (one_if new) (omega arith))) ∙ same_tests all above

tests_more_is : (new newly : Bool) (tests hit : ℕ) → hit ≤ tests → 0 < tests + one_if new → Some (tests_more new newly (test_counts_of tests hit)) ≡ test_counts_of (tests + one_if new) (hit + one_if newly)
tests_more_is new newly tests hit less some = more_at new newly tests hit (nat_lt 0 tests) refl less some

module _ {K V : Type 0} {cmp : K → K → Ordering} (o : IsExactOrder cmp) (is_above : V → Bool) (key : K) (value : V) (counts : List (K × TestCounts)) where
  -- ---- the numbers of the other points, and their order

  apart_at : (new newly : Bool) (before : Option V) (other : K) → is_eq (cmp key other) ≡ false
      → value_of cmp other (if new then put cmp key (tests_more true (is_newly_hit is_above before value) (value_of cmp key counts)) counts else
      if newly then put cmp key (tests_more false true (value_of cmp key counts)) counts else counts) ≡ value_of cmp other counts
  apart_at true newly before other e = value_of-put_apart o key other (tests_more true (is_newly_hit is_above before value) (value_of cmp key counts)) counts e
  apart_at false true before other e = value_of-put_apart o key other (tests_more false true (value_of cmp key counts)) counts e
  apart_at false false before other e = refl

  ascending_at : (new newly : Bool) (before : Option V) → ArePairs cmp counts
      → ArePairs cmp (if new then put cmp key (tests_more true (is_newly_hit is_above before value) (value_of cmp key counts)) counts else
      if newly then put cmp key (tests_more false true (value_of cmp key counts)) counts else counts)
  ascending_at true newly before sorted = ArePairs-put o key (tests_more true (is_newly_hit is_above before value) (value_of cmp key counts)) counts sorted
  ascending_at false true before sorted = ArePairs-put o key (tests_more false true (value_of cmp key counts)) counts sorted
  ascending_at false false before sorted = sorted

  pub ArePairs-counts_with : (before : Option V) → ArePairs cmp counts → ArePairs cmp (counts_with cmp is_above key before value counts)
  ArePairs-counts_with before sorted = ascending_at (is_new before) (is_newly_hit is_above before value) before sorted

  -- ---- the numbers of the point

  new_at : (above : Bool) (tests hit : ℕ) → hit ≤ tests → value_of cmp key counts ≡ test_counts_of (tests + 0) (hit + 0)
      → value_of cmp key (put cmp key (tests_more true (above && true) (value_of cmp key counts)) counts) ≡ test_counts_of (tests + 1) (hit + one_if above)
  new_at above tests hit less e =
      value_of-put o key (tests_more true (above && true) (value_of cmp key counts)) counts
      ∙ ap (λ (committed : Option TestCounts). Some (tests_more true (above && true) committed)) e
      ∙ tests_more_is true (above && true) (tests + 0) (hit + 0) (omega arith) (omega arith)
      ∙ same_tests {tests = tests + 0 + 1} {hit = hit + 0 + one_if (above && true)} (omega arith) (both above)
    where
      both : (b : Bool) → hit + 0 + one_if (b && true) ≡ hit + one_if b
      both true = omega arith
      both false = omega arith

  old_at : (after above : Bool) (tests hit : ℕ) → hit ≤ tests → (above ≡ true → after ≡ true) → value_of cmp key counts ≡ test_counts_of (tests + 1) (hit + one_if above)
      → value_of cmp key (if after && not above then put cmp key (tests_more false true (value_of cmp key counts)) counts else counts) ≡ test_counts_of (tests + 1) (hit + one_if after)
  old_at true true tests hit less stays e = e
  old_at true false tests hit less stays e =
      value_of-put o key (tests_more false true (value_of cmp key counts)) counts
      ∙ ap (λ (committed : Option TestCounts). Some (tests_more false true committed)) e
      ∙ tests_more_is false true (tests + 1) (hit + 0) (omega arith) (omega arith)
      ∙ same_tests {tests = tests + 1 + 0} {hit = hit + 0 + 1} (omega arith) (omega arith)
  old_at false true tests hit less stays e = absurd (false≢true (stays refl))
  old_at false false tests hit less stays e = e

  here_at : (before : Option V) (tests hit : ℕ) → hit ≤ tests → (is_above_at is_above before ≡ true → is_above value ≡ true) → value_of cmp key counts ≡ tests_among is_above tests hit before
      → value_of cmp key (counts_with cmp is_above key before value counts) ≡ tests_among is_above tests hit (Some value)
  here_at None tests hit less stays e = new_at (is_above value) tests hit less e
  here_at (Some committed) tests hit less stays e = old_at (is_above value) (is_above committed) tests hit less stays e

  -- ---- all together

  module _ (front : List (List (K × V))) (old : List (K × V)) (back : List (List (K × V))) (stays : is_above_at is_above (value_of cmp key old) ≡ true → is_above value ≡ true) where
    others_stay : (other : K) → is_eq (cmp key other) ≡ false → tests_at cmp is_above other (front ++ put cmp key value old ∷ back) ≡ tests_at cmp is_above other (front ++ old ∷ back)
    others_stay other e =
        tests_at-between cmp is_above other front (put cmp key value old) back
        ∙ ap (tests_among is_above (count_with cmp other (front ++ back)) (count_above cmp is_above other (front ++ back))) (value_of-put_apart o key other value old e)
        ∙ sym (tests_at-between cmp is_above other front old back)

    counted_key : value_of cmp key counts ≡ tests_at cmp is_above key (front ++ old ∷ back)
        → value_of cmp key (counts_with cmp is_above key (value_of cmp key old) value counts) ≡ tests_at cmp is_above key (front ++ put cmp key value old ∷ back)
    counted_key e =
        let others = front ++ back in
        here_at (value_of cmp key old) (count_with cmp key others) (count_above cmp is_above key others) (above_le_with cmp is_above key others) stays
        (e ∙ tests_at-between cmp is_above key front old back)
        ∙ sym (ap (tests_among is_above (count_with cmp key others) (count_above cmp is_above key others)) (value_of-put o key value old))
        ∙ sym (tests_at-between cmp is_above key front (put cmp key value old) back)

    counted_any : AreCounts cmp is_above (front ++ old ∷ back) counts → (other : K)
        → value_of cmp other (counts_with cmp is_above key (value_of cmp key old) value counts) ≡ tests_at cmp is_above other (front ++ put cmp key value old ∷ back)
    counted_any are other = ⊎_elim
        (λ (e : is_eq (cmp key other) ≡ true).
        subst (λ (k : K). value_of cmp k (counts_with cmp is_above key (value_of cmp key old) value counts) ≡ tests_at cmp is_above k (front ++ put cmp key value old ∷ back))
        (tells_apart o.exact key other e) (counted_key (are.counted key)))
        (λ (e : is_eq (cmp key other) ≡ false).
        apart_at (is_new (value_of cmp key old)) (is_newly_hit is_above (value_of cmp key old) value) (value_of cmp key old) other e
        ∙ are.counted other ∙ sym (others_stay other e))
        (cases_Bool (is_eq (cmp key other)))

    -- a value is put into one test, and what was above 0 stays above 0
    pub counts_put : AreCounts cmp is_above (front ++ old ∷ back) counts
        → AreCounts cmp is_above (front ++ put cmp key value old ∷ back) (counts_with cmp is_above key (value_of cmp key old) value counts)
    counts_put are = record { ascending = ArePairs-counts_with (value_of cmp key old) are.ascending; counted = counted_any are }

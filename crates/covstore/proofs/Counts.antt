-- The numbers of a point: over all tests, over no tests, with one more empty test, and how large they can be.
use Rattle.covstore.proofs.Words.{◌≡◌, ℕ, ◌+◌, ◌<◌, ◌≤◌, Bool, true, false, cond, if◌then◌else◌, nat_lt, Option, Some, None, List, [], ◌∷◌, ◌++◌, length, refl, sym, ap, ◌∙◌, arith, Ordering, sum_by, ltb-true, count_by-le-length, sum_by-append, sum_by-cons, sum_by-le-sum_by, none-some, same_Some, TestCounts, AreCounts, count_above, count_with, is_above_at, one_if, tests_at, value_of}
use Rattle.std.specs.List.{count_by}
use Rattle.std.specs.Option.{is_some}
use Rattle.covstore.proofs.Puts.{counted_one}

-- the numbers of a point, if this many tests have it, and this many have it above 0
abbrev pub test_counts_of : ℕ → ℕ → Option TestCounts
test_counts_of tests hit = if nat_lt 0 tests then Some (record { tests = tests; hit = hit }) else None

pub same_tests : {tests others hit above : ℕ} → tests ≡ others → hit ≡ above → test_counts_of tests hit ≡ test_counts_of others above
same_tests {others = others} {hit = hit} e f = ap (λ (n : ℕ). test_counts_of n hit) e ∙ ap (test_counts_of others) f

-- ---- one test among others

-- the numbers of a point after a test is added to this many tests and hits. The test has this value at the point, if any
abbrev pub tests_among : {V : Type 0} → (V → Bool) → ℕ → ℕ → Option V → Option TestCounts
tests_among is_above tests hit value = test_counts_of (tests + one_if (is_some value)) (hit + one_if (is_above_at is_above value))

pub sum_by-between : {X : Type 0} (f : X → ℕ) (front : List X) (x : X) (back : List X) → sum_by f (front ++ x ∷ back) ≡ sum_by f (front ++ back) + f x
sum_by-between f front x back = omega (arith, sum_by-append f front (x ∷ back), sum_by-append f front back, sum_by-cons f x back)

-- the count over a list is that over its other elements, and 1 more if `p` is true of x
pub count_by-between : {X : Type 0} (p : X → Bool) (front : List X) (x : X) (back : List X) → count_by p (front ++ x ∷ back) ≡ count_by p (front ++ back) + one_if (p x)
count_by-between p front x back = omega (arith, sum_by-between (λ y. cond (p y) 1 0) front x back, counted_one (p x))

-- a test that has a point above 0 has the point
above_is_with : {V : Type 0} (is_above : V → Bool) (value : Option V) → cond {A = ℕ} (is_above_at is_above value) 1 0 ≤ cond {A = ℕ} (is_some value) 1 0
above_is_with is_above None = omega arith
above_is_with is_above (Some value) = by (is_above value)
  where
    by : (b : Bool) → cond {A = ℕ} b 1 0 ≤ 1
    by true = omega arith
    by false = omega arith

module _ {K V : Type 0} (cmp : K → K → Ordering) (is_above : V → Bool) where
  pub above_le_with : (key : K) (tests : List (List (K × V))) → count_above cmp is_above key tests ≤ count_with cmp key tests
  above_le_with key tests =
      sum_by-le-sum_by (λ pairs. cond (is_above_at is_above (value_of cmp key pairs)) 1 0) (λ pairs. cond (is_some (value_of cmp key pairs)) 1 0) tests
      (λ pairs. above_is_with is_above (value_of cmp key pairs))

  -- the numbers of a point, by its value in one of the tests
  pub tests_at-between : (key : K) (front : List (List (K × V))) (pairs : List (K × V)) (back : List (List (K × V)))
      → tests_at cmp is_above key (front ++ pairs ∷ back) ≡ tests_among is_above (count_with cmp key (front ++ back)) (count_above cmp is_above key (front ++ back)) (value_of cmp key pairs)
  tests_at-between key front pairs back =
      same_tests (count_by-between (λ (test : List (K × V)). is_some (value_of cmp key test)) front pairs back)
      (count_by-between (λ (test : List (K × V)). is_above_at is_above (value_of cmp key test)) front pairs back)

  -- ---- no tests, and one more empty test

  pub counts_none : AreCounts cmp is_above [] []
  counts_none = record { ascending = tt; counted = λ key. refl }

  pub tests_at-empty : (key : K) (front back : List (List (K × V))) → tests_at cmp is_above key (front ++ [] ∷ back) ≡ tests_at cmp is_above key (front ++ back)
  tests_at-empty key front back =
      let with_it = count_with cmp key (front ++ back) in
      let above = count_above cmp is_above key (front ++ back) in
      tests_at-between key front [] back ∙ same_tests {tests = with_it + 0} {hit = above + 0} (omega arith) (omega arith)

  pub counts_empty : (front back : List (List (K × V))) (counts : List (K × TestCounts)) → AreCounts cmp is_above (front ++ back) counts → AreCounts cmp is_above (front ++ [] ∷ back) counts
  counts_empty front back counts are = record { ascending = are.ascending; counted = λ key. are.counted key ∙ sym (tests_at-empty key front back) }

  pub counts_unempty : (front back : List (List (K × V))) (counts : List (K × TestCounts)) → AreCounts cmp is_above (front ++ [] ∷ back) counts → AreCounts cmp is_above (front ++ back) counts
  counts_unempty front back counts are = record { ascending = are.ascending; counted = λ key. are.counted key ∙ tests_at-empty key front back }

-- ---- how large the numbers are

-- bounds of a point's numbers: at least one test has the point, no more tests have it above 0 than have it, and no more have it
-- than there are tests
pub record IsWithin (committed : TestCounts) (tests : ℕ) : Type 0 where
  pub some : 0 < committed.tests
  pub hit : committed.hit ≤ committed.tests
  pub all : committed.tests ≤ tests

within_at : (is : Bool) (tests hit all : ℕ) (committed : TestCounts) → nat_lt 0 tests ≡ is → hit ≤ tests → tests ≤ all → (if is then Some (record { tests = tests; hit = hit }) else None) ≡ Some committed → IsWithin committed all
within_at false tests hit all committed e less most h = absurd (none-some committed h)
within_at true tests hit all committed e less most h =
    let same : record { tests = tests; hit = hit } ≡ committed = same_Some (record { tests = tests; hit = hit }) committed h in
    let there : tests ≡ committed.tests = ap (λ (t : TestCounts). t.tests) same in
    let above : hit ≡ committed.hit = ap (λ (t : TestCounts). t.hit) same in
    let more : 0 < tests = ltb-true 0 tests e in
    record { some = omega arith; hit = omega arith; all = omega arith }

pub counts_within : {K V : Type 0} {cmp : K → K → Ordering} {is_above : V → Bool} {tests : List (List (K × V))} {counts : List (K × TestCounts)} → AreCounts cmp is_above tests counts
    → (key : K) (committed : TestCounts) → value_of cmp key counts ≡ Some committed → IsWithin committed (length tests)
counts_within {cmp = cmp} {is_above = is_above} {tests = tests} are key committed e =
    within_at (nat_lt 0 (count_with cmp key tests)) (count_with cmp key tests) (count_above cmp is_above key tests) (length tests) committed refl
    (above_le_with cmp is_above key tests) (count_by-le-length (λ pairs. is_some (value_of cmp key pairs)) tests) (sym (are.counted key) ∙ e)

-- For each point of a file, how many tests have it, and how many have it above 0.
use Rattle.std.specs.Prelude.{◌≡◌, ℕ, ◌+◌, ◌≤◌, ◌^◌, Bool, true, false, nat_lt, ◌&&◌, ◌||◌, not, if◌then◌else◌, IfSome, Option, Some, None, List, length, count_by}
use Rattle.std.specs.declared.cmp.Ordering.{Ordering}
use Rattle.std.specs.Option.{is_some}
use Rattle.covstore.specs.declared.sums.TestCounts.{TestCounts}
use Rattle.covstore.specs.declared.sums.TestsAddend.{TestsAddend}
use Rattle.covmap.specs.Puts.{ArePairs, put, value_of}

-- there is a value, and it is above 0
abbrev pub is_above_at : {V : Type 0} → (V → Bool) → Option V → Bool
is_above_at is_above None = false
is_above_at is_above (Some value) = is_above value

-- how many of the tests have the point. A test is given by its points and their values
abbrev pub count_with : {K V : Type 0} → (K → K → Ordering) → K → List (List (K × V)) → ℕ
count_with cmp key tests = count_by (λ pairs. is_some (value_of cmp key pairs)) tests

-- how many of the tests have the point above 0
abbrev pub count_above : {K V : Type 0} → (K → K → Ordering) → (V → Bool) → K → List (List (K × V)) → ℕ
count_above cmp is_above key tests = count_by (λ pairs. is_above_at is_above (value_of cmp key pairs)) tests

-- the numbers of a point, or `None` if no test has it
abbrev pub tests_at : {K V : Type 0} → (K → K → Ordering) → (V → Bool) → K → List (List (K × V)) → Option TestCounts
tests_at cmp is_above key tests =
    if nat_lt 0 (count_with cmp key tests) then Some (record { tests = count_with cmp key tests; hit = count_above cmp is_above key tests }) else None

-- the counts are those of these tests: they have each point that some test has, with its numbers, and no other point
pub record AreCounts {K V : Type 0} (cmp : K → K → Ordering) (is_above : V → Bool) (tests : List (List (K × V))) (counts : List (K × TestCounts)) : Type 0 where
  pub ascending : ArePairs cmp counts
  pub counted : (key : K) → value_of cmp key counts ≡ tests_at cmp is_above key tests

-- some test has the point with a value above 0
abbrev pub is_hit_by_some : TestCounts → Bool
is_hit_by_some numbers = nat_lt 0 numbers.hit

-- how many points there are
abbrev pub found_of : {K : Type 0} → List (K × TestCounts) → ℕ
found_of counts = length counts

-- how many of the points have a value above 0 in some test
abbrev pub hit_of : {K : Type 0} → List (K × TestCounts) → ℕ
hit_of counts = count_by (λ pair. nat_lt 0 pair.1.hit) counts

-- ---- a value changes in one test

-- 1 if the condition is true, else 0
abbrev pub one_if : Bool → ℕ
one_if true = 1
one_if false = 0

abbrev pub tests_more : Bool → Bool → Option TestCounts → TestCounts
tests_more is_new is_newly_hit None = record { tests = one_if is_new; hit = one_if is_newly_hit }
tests_more is_new is_newly_hit (Some numbers) = record { tests = numbers.tests + one_if is_new; hit = numbers.hit + one_if is_newly_hit }

-- the point had no value before
abbrev pub is_new : {V : Type 0} → Option V → Bool
is_new before = not (is_some before)

-- the point's value is above 0 now, and wasn't before
abbrev pub is_newly_hit : {V : Type 0} → (V → Bool) → Option V → V → Bool
is_newly_hit is_above before after = is_above after && not (is_above_at is_above before)

-- the counts after the value of the key changes in one test from `before` to `after`
abbrev pub counts_with : {K V : Type 0} → (K → K → Ordering) → (V → Bool) → K → Option V → V → List (K × TestCounts) → List (K × TestCounts)
counts_with cmp is_above key before after counts =
    if is_new before then put cmp key (tests_more true (is_newly_hit is_above before after) (value_of cmp key counts)) counts else
    if is_newly_hit is_above before after then put cmp key (tests_more false true (value_of cmp key counts)) counts else counts

-- ---- what a test adds to the numbers of a point

abbrev pub test_counts_with : TestsAddend → Option TestCounts → TestCounts
test_counts_with more before = tests_more more.is_new more.is_hit before

-- the point's numbers can grow by 1
abbrev pub tests_fit : TestsAddend → Option TestCounts → Type 0
tests_fit more before = IfSome before (λ numbers. (numbers.tests ≤ 2 ^ 63) × (numbers.hit ≤ 2 ^ 63))

abbrev pub change_by : Bool → Bool → Option TestsAddend
change_by is_new is_hit = if is_new || is_hit then Some (record { is_new = is_new; is_hit = is_hit }) else None

-- what a test adds to a point's numbers when its value there changes from `before` to `after`. `None` if the test already had the
-- point, and doesn't newly have it above 0
abbrev pub change_of : {V : Type 0} → (V → Bool) → Option V → V → Option TestsAddend
change_of is_above before after = change_by (is_new before) (is_newly_hit is_above before after)

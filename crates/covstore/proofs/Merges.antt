-- Adding the points of a test to another test gives the same as adding the items that add up to these points.
use Rattle.covstore.proofs.Words.{◌≡◌, ℕ, ◌+◌, ◌≤◌, min, Bool, true, false, ◌||◌, cond, Option, Some, None, List, [], ◌∷◌, length, refl, sym, ap, ◌∙◌, subst, arith, slice_cmp, flat_map, is_eq, nat_cmp, Ordering, tied_itself, length-map, branch_point, branch_points, func_point, func_points, line_point, line_points, ItemData, ArePairs, put, value_of, sum_put, summed, Branch, Function, Kind, Line, PointsOf, SumOf, at, cmp_of, merged, AddendOf, RunOf, addend_of, as_run, points_with, run_of, sum_of, with_items, TestData, branch_sum, function_sum, line_sum, sum_taken, test_of, bounded, branch_cmp, branches_in, lines_in, names_in, IsExactOrder, length-ascending}
use Rattle.covtable.proofs.Few.{few_parts, one_branch, one_function, one_line}
use Rattle.covstore.proofs.Assigned.{any_key}
use Rattle.covstore.proofs.EachKind.{order_of, same_each}
use Rattle.covstore.proofs.Puts.{ArePairs-put, same_pairs, value_of-put, value_of-put_apart, value_of_before, value_of_later}
use Rattle.covstore.proofs.RunsSums.{run_sums, sums_more_items}

-- ---- points of any kind

-- the sum at a point after another test's sum there, if it has one, is added
abbrev pub added : {V M : Type 0} → (M → Option V → V) → (V → M) → Option V → Option V → Option V
added sum addend None value = value
added sum addend (Some more) value = Some (sum (addend more) value)

module _ {K V M : Type 0} {cmp : K → K → Ordering} (o : IsExactOrder cmp) (sum : M → Option V → V) (addend : V → M) where
  abbrev with_run : List (K × M) → List (K × V) → List (K × V)
  with_run run points = summed cmp (λ key. key) sum run points

  pub run_sorted : (run : List (K × M)) (points : List (K × V)) → ArePairs cmp points → ArePairs cmp (with_run run points)
  run_sorted [] points sorted = sorted
  run_sorted (item ∷ run) points sorted =
      run_sorted run (sum_put cmp (λ key. key) sum item points) (ArePairs-put o item.0 (sum item.1 (value_of cmp item.0 points)) points sorted)

  -- the sum of any point, once all sums of another test are added
  pub added_at : (more : List (K × V)) → ArePairs cmp more → (points : List (K × V)) (key : K)
      → value_of cmp key (with_run (as_run addend more) points) ≡ added sum addend (value_of cmp key more) (value_of cmp key points)
  added_at [] sorted points key = refl
  added_at (pair ∷ more) sorted points key =
      let value = sum (addend pair.1) (value_of cmp pair.0 points) in
      let next = put cmp pair.0 value points in
      any_key o (λ (k : K). value_of cmp k (with_run (as_run addend more) next) ≡ added sum addend (value_of cmp k (pair ∷ more)) (value_of cmp k points)) pair.0
      (added_at more sorted.1 next pair.0
      ∙ ap (λ (own : Option V). added sum addend own (value_of cmp pair.0 next)) (value_of_before o pair.0 more sorted.0)
      ∙ value_of-put o pair.0 value points
      ∙ sym (ap (λ (order : Ordering). added sum addend (cond (is_eq order) (Some pair.1) (value_of cmp pair.0 more)) (value_of cmp pair.0 points)) (tied_itself o.total pair.0)))
      (λ other apart.
      added_at more sorted.1 next other
      ∙ ap (λ (own : Option V). added sum addend (value_of cmp other more) own) (value_of-put_apart o pair.0 other value points apart)
      ∙ sym (ap (λ (own : Option V). added sum addend own (value_of cmp other points)) (value_of_later o other pair more apart)))
      key

  -- an addend that is made of a sum adds as much as what the sum was made of
  module _ (first : (more : M) (value : Option V) → sum (addend (sum more None)) value ≡ sum more value)
      (later : (more : M) (before : V) (value : Option V) → sum (addend (sum more (Some before))) value ≡ sum more (Some (sum (addend before) value))) where
    own_sum : (more : M) (before value : Option V) → Some (sum (addend (sum more before)) value) ≡ Some (sum more (added sum addend before value))
    own_sum more None value = ap Some (first more value)
    own_sum more (Some before) value = ap Some (later more before value)

    one_merges : (item : K × M) (more points : List (K × V)) → ArePairs cmp more → ArePairs cmp points
        → with_run (as_run addend (sum_put cmp (λ key. key) sum item more)) points ≡ sum_put cmp (λ key. key) sum item (with_run (as_run addend more) points)
    one_merges item more points sorted ordered =
        let key = item.0 in
        let own = sum item.1 (value_of cmp key more) in
        let all = with_run (as_run addend more) points in
        let last = sum item.1 (value_of cmp key all) in
        let put_first = added_at (put cmp key own more) (ArePairs-put o key own more sorted) points in
        same_pairs o (with_run (as_run addend (put cmp key own more)) points) (put cmp key last all)
        (run_sorted (as_run addend (put cmp key own more)) points ordered) (ArePairs-put o key last all (run_sorted (as_run addend more) points ordered))
        (any_key o (λ (k : K). value_of cmp k (with_run (as_run addend (put cmp key own more)) points) ≡ value_of cmp k (put cmp key last all)) key
        (put_first key
        ∙ ap (λ (v : Option V). added sum addend v (value_of cmp key points)) (value_of-put o key own more)
        ∙ own_sum item.1 (value_of cmp key more) (value_of cmp key points)
        ∙ ap (λ (v : Option V). Some (sum item.1 v)) (sym (added_at more sorted points key))
        ∙ sym (value_of-put o key last all))
        (λ other apart.
        put_first other
        ∙ ap (λ (v : Option V). added sum addend v (value_of cmp other points)) (value_of-put_apart o key other own more apart)
        ∙ sym (added_at more sorted points other)
        ∙ sym (value_of-put_apart o key other last all apart)))

    -- adding what a run adds up to gives the same as adding the run
    pub run_merges : (run : List (K × M)) (more points : List (K × V)) → ArePairs cmp more → ArePairs cmp points
        → with_run (as_run addend (with_run run more)) points ≡ with_run run (with_run (as_run addend more) points)
    run_merges [] more points sorted ordered = refl
    run_merges (item ∷ run) more points sorted ordered =
        run_merges run (sum_put cmp (λ key. key) sum item more) points (ArePairs-put o item.0 (sum item.1 (value_of cmp item.0 more)) more sorted) ordered
        ∙ ap (with_run run) (one_merges item more points sorted ordered)

-- ---- the sums of each kind

bounded_twice : (a : ℕ) → bounded (bounded a) ≡ bounded a
bounded_twice a = omega arith

bounded_last : (a b : ℕ) → bounded (a + bounded b) ≡ bounded (a + b)
bounded_last a b = omega arith

bounded_first : (a b : ℕ) → bounded (bounded (a + b)) ≡ bounded (bounded a + b)
bounded_first a b = omega arith

bounded_moved : (a b c : ℕ) → bounded (a + bounded (b + c)) ≡ bounded (bounded (a + b) + c)
bounded_moved a b c = omega arith

least_moved : (a b c : ℕ) → min a (min b c) ≡ min (min a b) c
least_moved a b c = omega arith

or_moved : (a b c : Bool) → (a || (b || c)) ≡ ((a || b) || c)
or_moved true b c = refl
or_moved false b c = refl

taken_last : (a b : Option ℕ) → sum_taken a (sum_taken None b) ≡ sum_taken a b
taken_last None None = refl
taken_last None (Some b) = ap Some (bounded_twice b)
taken_last (Some a) None = refl
taken_last (Some a) (Some b) = ap Some (bounded_last a b)

taken_moved : (a b c : Option ℕ) → sum_taken a (sum_taken b c) ≡ sum_taken (sum_taken a b) c
taken_moved None None None = refl
taken_moved None None (Some c) = ap Some (bounded_twice c)
taken_moved None (Some b) None = refl
taken_moved None (Some b) (Some c) = ap Some (bounded_first b c)
taken_moved (Some a) None None = refl
taken_moved (Some a) None (Some c) = ap Some (bounded_last a c)
taken_moved (Some a) (Some b) None = refl
taken_moved (Some a) (Some b) (Some c) = ap Some (bounded_moved a b c)

first_of : (kind : Kind) (more : AddendOf kind) (value : Option (SumOf kind)) → sum_of kind (addend_of kind (sum_of kind more None)) value ≡ sum_of kind more value
first_of Line more None = λ i. record { count = bounded_twice more.count i; has_checksum = more.has_checksum }
first_of Line more (Some value) = λ i. record { count = bounded_last value.count more.count i; has_checksum = value.has_checksum || more.has_checksum }
first_of Function more None = λ i. record { line = more.line; count = bounded_twice more.count i }
first_of Function more (Some value) = λ i. record { line = min value.line more.line; count = bounded_last value.count more.count i }
first_of Branch more None = λ i. record { times = taken_last None more.times i }
first_of Branch more (Some value) = λ i. record { times = taken_last value.times more.times i }

later_of : (kind : Kind) (more : AddendOf kind) (before : SumOf kind) (value : Option (SumOf kind))
    → sum_of kind (addend_of kind (sum_of kind more (Some before))) value ≡ sum_of kind more (Some (sum_of kind (addend_of kind before) value))
later_of Line more before None = λ i. record { count = bounded_first before.count more.count i; has_checksum = before.has_checksum || more.has_checksum }
later_of Line more before (Some value) =
    λ i. record { count = bounded_moved value.count before.count more.count i; has_checksum = or_moved value.has_checksum before.has_checksum more.has_checksum i }
later_of Function more before None = λ i. record { line = min before.line more.line; count = bounded_first before.count more.count i }
later_of Function more before (Some value) =
    λ i. record { line = least_moved value.line before.line more.line i; count = bounded_moved value.count before.count more.count i }
later_of Branch more before None = λ i. record { times = taken_moved None before.times more.times i }
later_of Branch more before (Some value) = λ i. record { times = taken_moved value.times before.times more.times i }

-- ---- all kinds

module _ (kind : Kind) (items : List ItemData) where
  abbrev its_run : RunOf kind
  its_run = flat_map (run_of kind) items

  -- what the items add up to is the sum of their run
  from_run : points_with kind its_run [] ≡ at kind (test_of items)
  from_run = ap (points_with kind its_run) (by kind) ∙ run_sums kind items (test_of []) ∙ ap (λ (test : TestData). at kind test) (sym (sums_more_items [] items))
    where
      by : (own : Kind) → [] ≡ at own (test_of [])
      by Line = refl
      by Function = refl
      by Branch = refl

  pub sums_sorted : ArePairs (cmp_of kind) (at kind (test_of items))
  sums_sorted = subst (ArePairs (cmp_of kind)) from_run (run_sorted (order_of kind) (sum_of kind) (addend_of kind) its_run [] tt)

  kind_merges : (points : PointsOf kind) → ArePairs (cmp_of kind) points → points_with kind (as_run (addend_of kind) (at kind (test_of items))) points ≡ points_with kind its_run points
  kind_merges points sorted =
      ap (λ (own : PointsOf kind). points_with kind (as_run (addend_of kind) own) points) (sym from_run)
      ∙ run_merges (order_of kind) (sum_of kind) (addend_of kind) (first_of kind) (later_of kind) its_run [] points tt sorted

  with_all : (test : TestData) → ArePairs (cmp_of kind) (at kind test) → points_with kind (as_run (addend_of kind) (at kind (test_of items))) (at kind test) ≡ at kind (with_items items test)
  with_all test sorted = kind_merges (at kind test) sorted ∙ run_sums kind items test

pub merged_is : (items : List ItemData) (test : TestData) → ((kind : Kind) → ArePairs (cmp_of kind) (at kind test)) → merged (test_of items) test ≡ with_items items test
merged_is items test sorted = same_each (merged (test_of items) test) (with_items items test) (λ kind. by kind)
  where
    by : (kind : Kind) → at kind (merged (test_of items) test) ≡ at kind (with_items items test)
    by Line = with_all Line items test (sorted Line)
    by Function = with_all Function items test (sorted Function)
    by Branch = with_all Branch items test (sorted Branch)

-- items add up to at most as many points as there are items
pub sums_few : (kind : Kind) (items : List ItemData) → length (at kind (test_of items)) ≤ length items
sums_few Line items = omega (arith, length-map (lines_in items) (line_sum items), length-ascending nat_cmp (line_points items), few_parts line_point one_line items)
sums_few Function items = omega (arith, length-map (names_in items) (function_sum items), length-ascending (slice_cmp nat_cmp) (func_points items), few_parts func_point one_function items)
sums_few Branch items = omega (arith, length-map (branches_in items) (branch_sum items), length-ascending branch_cmp (branch_points items), few_parts branch_point one_branch items)

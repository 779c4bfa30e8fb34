-- The index of a file without a test can be made from the index with it: the points of the other tests are counted again.
use Rattle.covstore.proofs.Words.{◌≡◌, ℕ, ◌≤◌, Bool, true, false, cond, nat_lt, if◌then◌else◌, Option, Some, None, List, [], ◌∷◌, ◌++◌, map, refl, sym, ap, ◌∙◌, ⊎_elim, arith, slice_cmp, Ordering, Less, AllByRecursion, flat_map, is_eq, nat_cmp, cases_Bool, cond-false, cond-true, le-ltb, ltb-false, sum_by-cons, tells_apart, none-some, TestCounts, CountsOf, Kind, above_of, at, cmp_of, of_each, AreCounts, count_above, count_with, is_above_at, tests_at, AreWithoutTest, IsWithoutTest, tests_without, FileIndexData, ArePairs, value_of, FileData, IsIndexOf, IsConsistentFile, file_with, has_checksum, holders_at, holding, TestData, IsExactOrder, lines_order}
use Rattle.std.specs.List.{count_by}
use Rattle.std.specs.Option.{is_some}
use Rattle.covstore.proofs.DropsKept.{index_first, points_of_all, without_found, without_unfound}
use Rattle.covstore.proofs.Puts.{value_of_first, value_of_later}
use Rattle.covstore.proofs.EachKind.{of_all, order_of}

-- ---- pairs in which each value is replaced, or removed

module _ {K V : Type 0} (again : K → Option V) where
  abbrev pair_of : K → Option V → List (K × V)
  pair_of key None = []
  pair_of key (Some value) = (key, value) ∷ []

  abbrev renewed : List (K × V) → List (K × V)
  renewed pairs = flat_map (λ pair. pair_of pair.0 (again pair.0)) pairs

  All-renewed : (P : K → Type 0) (pairs : List (K × V)) → AllByRecursion (λ pair. P pair.0) pairs → AllByRecursion (λ pair. P pair.0) (renewed pairs)
  All-renewed P [] all = tt
  All-renewed P (pair ∷ pairs) all = by (again pair.0) (All-renewed P pairs all.1)
    where
      by : (found : Option V) → AllByRecursion (λ pair. P pair.0) (renewed pairs) → AllByRecursion (λ pair. P pair.0) (pair_of pair.0 found ++ renewed pairs)
      by None rest = rest
      by (Some value) rest = (all.0, rest)

  module _ {cmp : K → K → Ordering} (o : IsExactOrder cmp) where
    renewed_ascend : (pairs : List (K × V)) → ArePairs cmp pairs → ArePairs cmp (renewed pairs)
    renewed_ascend [] sorted = tt
    renewed_ascend (pair ∷ pairs) sorted = by (again pair.0) (All-renewed (λ next. cmp pair.0 next ≡ Less) pairs sorted.0) (renewed_ascend pairs sorted.1)
      where
        by : (found : Option V) → AllByRecursion (λ next. cmp pair.0 next.0 ≡ Less) (renewed pairs) → ArePairs cmp (renewed pairs) → ArePairs cmp (pair_of pair.0 found ++ renewed pairs)
        by None following rest = rest
        by (Some value) following rest = (following, rest)

    -- the new value of a key that had a value, and `None` for a key that had none
    abbrev again_at : K → Option V → Option V
    again_at key None = None
    again_at key (Some value) = again key

    none_again : (key : K) (found : Option V) → again key ≡ None → again_at key found ≡ None
    none_again key None e = refl
    none_again key (Some value) e = e

    first_again : (key : K) (pair : K × V) (pairs : List (K × V)) (found : Option V) → again key ≡ found → value_of cmp key (renewed pairs) ≡ again_at key (value_of cmp key pairs)
        → value_of cmp key (pair_of key found ++ renewed pairs) ≡ again key
    first_again key pair pairs None e rest = rest ∙ none_again key (value_of cmp key pairs) e ∙ sym e
    first_again key pair pairs (Some value) e rest = value_of_first o key value (renewed pairs) ∙ sym e

    later_again : (key : K) (pair : K × V) (pairs : List (K × V)) (found : Option V) → is_eq (cmp pair.0 key) ≡ false → value_of cmp key (renewed pairs) ≡ again_at key (value_of cmp key pairs)
        → value_of cmp key (pair_of pair.0 found ++ renewed pairs) ≡ again_at key (value_of cmp key pairs)
    later_again key pair pairs None apart rest = rest
    later_again key pair pairs (Some value) apart rest = value_of_later o key (pair.0, value) (renewed pairs) apart ∙ rest

    renewed_value : (key : K) (pairs : List (K × V)) → value_of cmp key (renewed pairs) ≡ again_at key (value_of cmp key pairs)
    renewed_value key [] = refl
    renewed_value key (pair ∷ pairs) = by (is_eq (cmp pair.0 key)) refl (renewed_value key pairs)
      where
        by : (here : Bool) → is_eq (cmp pair.0 key) ≡ here → value_of cmp key (renewed pairs) ≡ again_at key (value_of cmp key pairs)
            → value_of cmp key (pair_of pair.0 (again pair.0) ++ renewed pairs) ≡ again_at key (cond (is_eq (cmp pair.0 key)) (Some pair.1) (value_of cmp key pairs))
        by true same rest =
            ap (λ (k : K). value_of cmp key (pair_of k (again k) ++ renewed pairs)) (tells_apart o.exact pair.0 key same)
            ∙ first_again key pair pairs (again key) refl rest
            ∙ sym (ap (again_at key) (cond-true (is_eq (cmp pair.0 key)) (Some pair.1) (value_of cmp key pairs) same))
        by false same rest =
            later_again key pair pairs (again pair.0) same rest
            ∙ sym (ap (again_at key) (cond-false (is_eq (cmp pair.0 key)) (Some pair.1) (value_of cmp key pairs) same))

    -- if a key without a value gets none, each key has the value that `again` gives
    renewed_is : (key : K) (pairs : List (K × V)) → (value_of cmp key pairs ≡ None → again key ≡ None) → value_of cmp key (renewed pairs) ≡ again key
    renewed_is key pairs few = renewed_value key pairs ∙ by (value_of cmp key pairs) refl
      where
        by : (found : Option V) → value_of cmp key pairs ≡ found → again_at key found ≡ again key
        by None e = sym (few e)
        by (Some value) e = refl

-- ---- numbers of tests without one of them

none_counted : {X : Type 0} (n : ℕ) (x : X) → (if nat_lt 0 n then Some x else None) ≡ None → n ≤ 0
none_counted {X} n x none = ⊎_elim {C = n ≤ 0}
    (λ (e : nat_lt 0 n ≡ true). absurd (none-some x (sym none ∙ cond-true (nat_lt 0 n) (Some x) None e)))
    (λ (e : nat_lt 0 n ≡ false). ltb-false 0 n e)
    (cases_Bool (nat_lt 0 n))

counted_none : {X : Type 0} (n : ℕ) (x : X) → n ≤ 0 → (if nat_lt 0 n then Some x else None) ≡ None
counted_none n x few = cond-false (nat_lt 0 n) (Some x) None (le-ltb 0 n few)

-- if the number of all tests is `None`, so is that of all but the first
none_without_first : {X Y : Type 0} (p : Y → Bool) (first : Y) (others : List Y) (x z : X) → (if nat_lt 0 (count_by p (first ∷ others)) then Some x else None) ≡ None
    → (if nat_lt 0 (count_by p others) then Some z else None) ≡ None
none_without_first p first others x z none =
    counted_none (count_by p others) z (omega (arith, none_counted (count_by p (first ∷ others)) x none, sum_by-cons (λ y. cond {A = ℕ} (p y) 1 0) first others))

rest_counts : {K V : Type 0} {cmp : K → K → Ordering} → IsExactOrder cmp → (is_above : V → Bool) (pairs : List (K × V)) (others : List (List (K × V))) (counts : List (K × TestCounts))
    → AreCounts cmp is_above (pairs ∷ others) counts → AreCounts cmp is_above others (renewed (λ key. tests_at cmp is_above key others) counts)
rest_counts {K} {V} {cmp} o is_above pairs others counts are = record {
  ascending = renewed_ascend (λ key. tests_at cmp is_above key others) o counts are.ascending;
  counted = λ key. renewed_is (λ k. tests_at cmp is_above k others) o key counts
      (λ none. none_without_first (λ ps. is_some (value_of cmp key ps)) pairs others
      (record { tests = count_with cmp key (pairs ∷ others); hit = count_above cmp is_above key (pairs ∷ others) })
      (record { tests = count_with cmp key others; hit = count_above cmp is_above key others })
      (sym (are.counted key) ∙ none));
}

pub rest_of : (test : TestData) (others : List TestData) (index : FileIndexData) → IsIndexOf (test ∷ others) index → (rest : FileIndexData) × (rest.texts ≡ index.texts) × IsIndexOf others rest
rest_of test others index are = (
  record { counts = of_each rest_of_kind; holders = renewed (λ line. holders_at line others) index.holders; texts = index.texts },
  refl,
  record {
    counts = of_all (λ kind (counts : CountsOf kind). AreCounts (cmp_of kind) (above_of kind) (map (at kind) others) counts) rest_of_kind
        (λ kind. rest_counts (order_of kind) (above_of kind) (at kind test) (map (at kind) others) (at kind index.counts) (are.counts kind));
    holders = λ line. renewed_is (λ l. holders_at l others) lines_order line index.holders
        (λ none. none_without_first (λ t. is_above_at has_checksum (value_of nat_cmp line t.lines)) test others (holding line (test ∷ others)) (holding line others) (sym (are.holders line) ∙ none));
  },
)
  where
    rest_of_kind : (kind : Kind) → CountsOf kind
    rest_of_kind kind = renewed (λ key. tests_at (cmp_of kind) (above_of kind) key (map (at kind) others)) (at kind index.counts)

-- ---- files

-- a consistent file has a version without the test
pub file_without : (name : List ℕ) (tests : List (List ℕ × TestData)) (index : FileIndexData) → IsConsistentFile (file_with tests index) → (after : FileData) × IsWithoutTest name (file_with tests index) after
file_without name tests index whole = by (value_of (slice_cmp nat_cmp) name tests) refl
  where
    by : (found : Option TestData) → value_of (slice_cmp nat_cmp) name tests ≡ found → (after : FileData) × IsWithoutTest name (file_with tests index) after
    by None e = (file_with tests index, without_unfound name (file_with tests index) whole e)
    by (Some points) e =
        let rest = rest_of points (points_of_all (tests_without name tests)) index (index_first name points tests index whole e) in
        (file_with (tests_without name tests) rest.0, without_found name points tests index whole e rest.0 rest.1 rest.2)

pub files_without : (name : List ℕ) (files : List (List ℕ × FileData)) → AllByRecursion (λ pair. IsConsistentFile pair.1) files → (after : List (List ℕ × FileData)) × AreWithoutTest name files after
files_without name [] whole = ([], tt)
files_without name (pair ∷ files) whole =
    let one = file_without name pair.1.tests pair.1.index whole.0 in
    let rest = files_without name files whole.1 in
    ((pair.0, one.0) ∷ rest.0, (refl, one.1, rest.1))

-- The index of a file counts its tests, whatever their order. And a file without one of its tests.
use Rattle.covstore.proofs.Words.{◌≡◌, ℕ, Bool, nat_lt, if◌then◌else◌, Some, None, List, [], ◌∷◌, ◌++◌, map, refl, sym, ap, ◌∙◌, subst, slice_cmp, Ordering, nat_cmp, map-append, TestCounts, PointsOf, above_of, at, cmp_of, AreCounts, is_above_at, IsWithoutTest, tests_without, FileIndexData, counts_totals, index_totals, value_of, FileData, IsIndexOf, IsConsistentFile, file_totals, file_with, has_checksum, holders_at, tests_in, TestData}
use Rattle.covstore.proofs.Counts.{count_by-between, tests_at-between}
use Rattle.covstore.proofs.DropsTests.{IsBetween, between, others_ascend, others_of_none}
use Rattle.covstore.proofs.EachKind.{map_between, order_of, same_each}
use Rattle.covstore.proofs.Fewer.{one_rest}

-- ---- one test moved to the front

counts_first : {K V : Type 0} (cmp : K → K → Ordering) (is_above : V → Bool) (front : List (List (K × V))) (pairs : List (K × V)) (back : List (List (K × V))) (counts : List (K × TestCounts))
    → AreCounts cmp is_above (front ++ pairs ∷ back) counts → AreCounts cmp is_above (pairs ∷ front ++ back) counts
counts_first cmp is_above front pairs back counts are = record {
  ascending = are.ascending;
  counted = λ key. are.counted key ∙ tests_at-between cmp is_above key front pairs back ∙ sym (tests_at-between cmp is_above key [] pairs (front ++ back));
}

holders_first : (line : ℕ) (front : List TestData) (test : TestData) (back : List TestData) → holders_at line (front ++ test ∷ back) ≡ holders_at line (test ∷ front ++ back)
holders_first line front test back =
    let holds = λ (t : TestData). is_above_at has_checksum (value_of nat_cmp line t.lines) in
    ap (λ (n : ℕ). if nat_lt 0 n then Some n else None) (count_by-between holds front test back ∙ sym (count_by-between holds [] test (front ++ back)))

pub kept_first : (front : List TestData) (test : TestData) (back : List TestData) (index : FileIndexData) → IsIndexOf (front ++ test ∷ back) index → IsIndexOf (test ∷ front ++ back) index
kept_first front test back index kept = record {
  counts = λ kind.
      subst (λ (all : List (PointsOf kind)). AreCounts (cmp_of kind) (above_of kind) (at kind test ∷ all) (at kind index.counts)) (sym (map-append (at kind) front back))
      (counts_first (cmp_of kind) (above_of kind) (map (at kind) front) (at kind test) (map (at kind) back) (at kind index.counts)
      (subst (λ (all : List (PointsOf kind)). AreCounts (cmp_of kind) (above_of kind) all (at kind index.counts)) (map_between (at kind) front test back) (kept.counts kind)));
  holders = λ line. kept.holders line ∙ holders_first line front test back;
}

-- ---- the tests decide the totals of their index

pub one_totals : (tests : List TestData) (index other : FileIndexData) → IsIndexOf tests index → IsIndexOf tests other → index_totals index ≡ index_totals other
one_totals tests index other kept also =
    ap counts_totals (same_each index.counts other.counts (λ kind. one_rest (order_of kind) {is_above = above_of kind} (map (at kind) tests) (at kind index.counts) (at kind other.counts) (kept.counts kind) (also.counts kind)))

-- ---- a file without one of its tests

-- the tests without their names
abbrev pub points_of_all : List (List ℕ × TestData) → List TestData
points_of_all tests = map (λ pair. pair.1) tests

module _ (name : List ℕ) (points : TestData) (tests : List (List ℕ × TestData)) (index : FileIndexData) (whole : IsConsistentFile (file_with tests index))
    (found : value_of (slice_cmp nat_cmp) name tests ≡ Some points) where
  place : IsBetween name points tests
  place = between name points tests whole.ascending found

  -- the index counts the test's points together with the points of the other tests
  pub index_first : IsIndexOf (points ∷ points_of_all (tests_without name tests)) index
  index_first =
      let front = points_of_all place.front in
      let back = points_of_all place.back in
      let all : points_of_all tests ≡ front ++ points ∷ back = ap points_of_all place.all ∙ map-append (λ (pair : List ℕ × TestData). pair.1) place.front ((name, points) ∷ place.back) in
      let rest : points_of_all (tests_without name tests) ≡ front ++ back = ap points_of_all place.without ∙ map-append (λ (pair : List ℕ × TestData). pair.1) place.front place.back in
      subst (λ (others : List TestData). IsIndexOf (points ∷ others) index) (sym rest) (kept_first front points back index (subst (λ (list : List TestData). IsIndexOf list index) all whole.kept))

  pub without_found : (rest : FileIndexData) → rest.texts ≡ index.texts → IsIndexOf (points_of_all (tests_without name tests)) rest
      → IsWithoutTest name (file_with tests index) (file_with (tests_without name tests) rest)
  without_found rest texts are = record {
    tests = refl;
    texts = texts;
    whole = record { ascending = others_ascend name tests whole.ascending; kept = are };
  }

pub index_after : (name : List ℕ) (before after : FileData) → IsWithoutTest name before after → IsIndexOf (points_of_all (tests_without name before.tests)) after.index
index_after name before after is = subst (λ (tests : List (List ℕ × TestData)). IsIndexOf (points_of_all tests) after.index) is.tests is.whole.kept

-- a file that doesn't have the test is the same without it
module _ (name : List ℕ) (file : FileData) (whole : IsConsistentFile file) (none : value_of (slice_cmp nat_cmp) name file.tests ≡ None) where
  pub without_unfound : IsWithoutTest name file file
  without_unfound = record { tests = sym (others_of_none name file.tests none); texts = refl; whole = whole }

  pub totals_unfound : (after : FileData) → IsWithoutTest name file after → file_totals file ≡ file_totals after
  totals_unfound after is =
      one_totals (tests_in file) file.index after.index whole.kept
      (subst (λ (tests : List (List ℕ × TestData)). IsIndexOf (points_of_all tests) after.index) (is.tests ∙ others_of_none name file.tests none) is.whole.kept)

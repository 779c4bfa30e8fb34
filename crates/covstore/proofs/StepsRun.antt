-- A run of addends is added to a test's points. What these report is a run for the file's counts. After it is added there, the
-- counts are again those of the tests.
use Rattle.covstore.proofs.Words.{◌≡◌, ◌+◌, ◌≤◌, ◌^◌, Bool, true, false, Option, Some, None, List, [], ◌∷◌, ◌++◌, length, refl, sym, ap, ◌∙◌, subst, arith, Ordering, IfSome, length-append, ArePairs, value_of, FitRun, sum_put, summed, reports_one, reports_run, TestCounts, HasRoomForRun, KeepsCountsOfKind, changed, AreCounts, change_of, is_above_at, is_new, one_if, tests_fit, test_counts_with, IsExactOrder}
use Rattle.covstore.specs.declared.sums.TestsAddend.{TestsAddend}
use Rattle.covstore.proofs.Puts.{length-put}
use Rattle.covstore.proofs.StepsCounts.{changed_is}
use Rattle.covstore.proofs.StepsKept.{numbers_few, put_keeps}

-- ---- what one addend reports, before the rest of the run

module _ {K Q : Type 0} (cmp : K → K → Ordering) (named : Q → K) (query : Q) (rest : List (Q × TestsAddend)) (counts : List (K × TestCounts)) where
  pub summed_reports : (change : Option TestsAddend) → summed cmp named test_counts_with (reports_one query change ++ rest) counts ≡ summed cmp named test_counts_with rest (changed cmp (named query) change counts)
  summed_reports None = refl
  summed_reports (Some more) = refl

  pub fit_reports : (change : Option TestsAddend) → IfSome (value_of cmp (named query) counts) (λ tests. (tests.tests ≤ 2 ^ 63) × (tests.hit ≤ 2 ^ 63))
      → FitRun cmp named tests_fit test_counts_with rest (changed cmp (named query) change counts) → FitRun cmp named tests_fit test_counts_with (reports_one query change ++ rest) counts
  fit_reports None fits left = left
  fit_reports (Some more) fits left = (fits, left)

-- what an addend reports is about one point, so the counts have at most one point more
pub length_changed : {K : Type 0} {cmp : K → K → Ordering} (o : IsExactOrder cmp) (key : K) (change : Option TestsAddend) (counts : List (K × TestCounts)) → ArePairs cmp counts
    → length (changed cmp key change counts) ≤ length counts + 1
length_changed o key None counts sorted = omega arith
length_changed {cmp = cmp} o key (Some more) counts sorted = omega (arith, length-put o key (test_counts_with more (value_of cmp key counts)) counts sorted, one_at_most (is_new (value_of cmp key counts)))
  where
    one_at_most : (is : Bool) → one_if is ≤ 1
    one_at_most true = omega arith
    one_at_most false = omega arith

-- ---- the run

module _ {K V Q M : Type 0} {cmp : K → K → Ordering} (o : IsExactOrder cmp) (is_above : V → Bool) (named : Q → K) (sum : M → Option V → V) (reports : M → Option V → V → Option TestsAddend)
    (stays : (more : M) (before : Option V) → is_above_at is_above before ≡ true → is_above (sum more before) ≡ true)
    (tells : (more : M) (before : Option V) (after : V) → reports more before after ≡ change_of is_above before after) where
  abbrev reports_of : Q × M → List (K × V) → Option TestsAddend
  reports_of item points = reports item.1 (value_of cmp (named item.0) points) (sum item.1 (value_of cmp (named item.0) points))

  one_keeps : (item : Q × M) (points : List (K × V)) (counts : List (K × TestCounts))
      → KeepsCountsOfKind cmp is_above points (sum_put cmp named sum item points) counts (changed cmp (named item.0) (reports_of item points) counts)
  one_keeps item points counts =
      let key = named item.0 in
      let before = value_of cmp key points in
      let after = sum item.1 before in
      put_keeps is_above points counts o key after (sum_put cmp named sum item points) (changed cmp key (reports_of item points) counts) refl (stays item.1 before)
      (ap (λ (change : Option TestsAddend). changed cmp key change counts) (tells item.1 before after) ∙ changed_is cmp is_above key counts before after)

  -- if the counts are those of the tests, they still are after the run is added to one test, and its reports to the counts
  pub run_keeps : (run : List (Q × M)) (points : List (K × V)) (counts : List (K × TestCounts))
      → KeepsCountsOfKind cmp is_above points (summed cmp named sum run points) counts (summed cmp named test_counts_with (reports_run cmp named sum reports run points) counts)
  run_keeps [] points counts front back are = are
  run_keeps (item ∷ run) points counts front back are =
      let next = sum_put cmp named sum item points in
      let more = changed cmp (named item.0) (reports_of item points) counts in
      subst (λ (kept : List (K × TestCounts)). AreCounts cmp is_above (front ++ summed cmp named sum run next ∷ back) kept)
      (sym (summed_reports cmp named item.0 (reports_run cmp named sum reports run next) counts (reports_of item points)))
      (run_keeps run next more front back (one_keeps item points counts front back are))

  -- each number can grow, since no more tests have a point than there are
  runs_fit : (front back : List (List (K × V))) → length front + (length back + 1) ≤ 2 ^ 63 → (run : List (Q × M)) (points : List (K × V)) (counts : List (K × TestCounts)) → AreCounts cmp is_above (front ++ points ∷ back) counts
      → FitRun cmp named tests_fit test_counts_with (reports_run cmp named sum reports run points) counts
  runs_fit front back few [] points counts are = tt
  runs_fit front back few (item ∷ run) points counts are =
      let next = sum_put cmp named sum item points in
      let more = changed cmp (named item.0) (reports_of item points) counts in
      fit_reports cmp named item.0 (reports_run cmp named sum reports run next) counts (reports_of item points)
      (numbers_few are (omega (arith, length-append front (points ∷ back), few)) (named item.0))
      (runs_fit front back few run next more (one_keeps item points counts front back are))

  pub run_fits : (run : List (Q × M)) (points : List (K × V)) (counts : List (K × TestCounts)) → HasRoomForRun cmp is_above points counts (length run)
      → FitRun cmp named tests_fit test_counts_with (reports_run cmp named sum reports run points) counts
  run_fits run points counts room = runs_fit room.front room.back (omega (arith, length-append room.front (points ∷ room.back), room.few_tests)) run points counts room.kept

-- The state of rows without those of a test: each file is without the test.
use Rattle.covstore.proofs.Words.{◌≡◌, ℕ, ◌≤◌, Bool, true, false, not, Option, Some, None, List, [], ◌∷◌, length, filter, refl, sym, ap, ◌∙◌, subst, cond, arith, slice_cmp, Less, AllByRecursion, is_eq, nat_cmp, bytes_eq, false≢true, length-map, count_by-le-length, length-filter, bytes_eq-Decides, Row, Totals, AreWithoutTest, IsWithoutTest, IsStore, ArePairs, value_of, FileData, IsStateOf, IsConsistentFile, points_at, points_in, points_or_none, text_in, totals_in, TestData, test_of, Table, all_rows, Key, items_at}
use Rattle.covdata.specs.Lawful.{max_items}
use Rattle.covtable.specs.Without.{is_of_test, without_test}
use Rattle.covstore.proofs.AddsPlace.{state_agrees}
use Rattle.covstore.proofs.DropsTests.{none_of_others, value_of_others}
use Rattle.covtable.proofs.WithoutContent.{items_of_others, items_of_test, rows_left, rows_without, held_before}

module _ (test : List ℕ) where
  -- ---- what is found at a name

  -- a file, and the same file without the test: both are there, or neither is
  abbrev IsFileWithout : Option FileData → Option FileData → Type 0
  IsFileWithout None None = Unit {0}
  IsFileWithout None (Some after) = ⊥
  IsFileWithout (Some before) None = ⊥
  IsFileWithout (Some before) (Some after) = IsWithoutTest test before after

  found_at : (here : Bool) (before after : FileData) (found later : Option FileData) → IsWithoutTest test before after → IsFileWithout found later → IsFileWithout (cond here (Some before) found) (cond here (Some after) later)
  found_at true before after found later is rest = is
  found_at false before after found later is rest = rest

  found_without : (name : List ℕ) (files after : List (List ℕ × FileData)) → AreWithoutTest test files after
      → IsFileWithout (value_of (slice_cmp nat_cmp) name files) (value_of (slice_cmp nat_cmp) name after)
  found_without name [] [] are = tt
  found_without name [] (later ∷ laters) are = absurd are
  found_without name (pair ∷ pairs) [] are = absurd are
  found_without name (pair ∷ pairs) (later ∷ laters) are =
      let found = value_of (slice_cmp nat_cmp) name pairs in
      let following = value_of (slice_cmp nat_cmp) name laters in
      subst (λ (key : List ℕ). IsFileWithout (cond (is_eq (slice_cmp nat_cmp pair.0 name)) (Some pair.1) found) (cond (is_eq (slice_cmp nat_cmp key name)) (Some later.1) following)) (sym are.0)
      (found_at (is_eq (slice_cmp nat_cmp pair.0 name)) pair.1 later.1 found following are.1 (found_without name pairs laters are.2))

  points_of_others : (name : List ℕ) → (name ≡ test → ⊥) → (found later : Option FileData) → IsFileWithout found later → points_in later name ≡ points_in found name
  points_of_others name apart None None is = refl
  points_of_others name apart None (Some after) is = absurd is
  points_of_others name apart (Some before) None is = absurd is
  points_of_others name apart (Some before) (Some after) is =
      ap (λ (tests : List (List ℕ × TestData)). points_or_none (value_of (slice_cmp nat_cmp) name tests)) is.tests ∙ ap points_or_none (value_of_others test name apart before.tests)

  points_of_test : (found later : Option FileData) → IsFileWithout found later → points_in later test ≡ test_of []
  points_of_test None None is = refl
  points_of_test None (Some after) is = absurd is
  points_of_test (Some before) None is = absurd is
  points_of_test (Some before) (Some after) is =
      ap (λ (tests : List (List ℕ × TestData)). points_or_none (value_of (slice_cmp nat_cmp) test tests)) is.tests ∙ ap points_or_none (none_of_others test before.tests)

  text_stays : (line : ℕ) (found later : Option FileData) → IsFileWithout found later → text_in later line ≡ text_in found line
  text_stays line None None is = refl
  text_stays line None (Some after) is = absurd is
  text_stays line (Some before) None is = absurd is
  text_stays line (Some before) (Some after) is = ap (value_of nat_cmp line) is.texts

  -- ---- the files

  names_after : (name : List ℕ) (files after : List (List ℕ × FileData)) → AreWithoutTest test files after → AllByRecursion (λ next. slice_cmp nat_cmp name next.0 ≡ Less) files
      → AllByRecursion (λ next. slice_cmp nat_cmp name next.0 ≡ Less) after
  names_after name [] [] are all = tt
  names_after name [] (later ∷ laters) are all = absurd are
  names_after name (pair ∷ pairs) [] are all = absurd are
  names_after name (pair ∷ pairs) (later ∷ laters) are all = (ap (slice_cmp nat_cmp name) are.0 ∙ all.0, names_after name pairs laters are.2 all.1)

  names_ascend : (files after : List (List ℕ × FileData)) → AreWithoutTest test files after → ArePairs (slice_cmp nat_cmp) files → ArePairs (slice_cmp nat_cmp) after
  names_ascend [] [] are sorted = tt
  names_ascend [] (later ∷ laters) are sorted = absurd are
  names_ascend (pair ∷ pairs) [] are sorted = absurd are
  names_ascend (pair ∷ pairs) (later ∷ laters) are sorted =
      (subst (λ (name : List ℕ). AllByRecursion (λ next. slice_cmp nat_cmp name next.0 ≡ Less) laters) (sym are.0) (names_after pair.0 pairs laters are.2 sorted.0), names_ascend pairs laters are.2 sorted.1)

  all_whole : (files after : List (List ℕ × FileData)) → AreWithoutTest test files after → AllByRecursion (λ pair. IsConsistentFile pair.1) after
  all_whole [] [] are = tt
  all_whole [] (later ∷ laters) are = absurd are
  all_whole (pair ∷ pairs) [] are = absurd are
  all_whole (pair ∷ pairs) (later ∷ laters) are = (are.1.whole, all_whole pairs laters are.2)

  -- ---- the state

  module _ (rows : List Row) (files after : List (List ℕ × FileData)) (state : IsStateOf rows files) (are : AreWithoutTest test files after) where
    points_by : (key : Key) (same : Bool) → bytes_eq key.test test ≡ same → points_at key after ≡ test_of (items_at key (rows_without test rows))
    points_by key true e =
        let is = (bytes_eq-Decides key.test test).0 e in
        let found = found_without key.file files after are in
        ap (λ (name : List ℕ). points_in (value_of (slice_cmp nat_cmp) key.file after) name) is
        ∙ points_of_test (value_of (slice_cmp nat_cmp) key.file files) (value_of (slice_cmp nat_cmp) key.file after) found
        ∙ ap test_of (sym (items_of_test test key rows e))
    points_by key false e =
        let apart : key.test ≡ test → ⊥ = λ same. false≢true (sym e ∙ (bytes_eq-Decides key.test test).1 same) in
        let found = found_without key.file files after are in
        points_of_others key.test apart (value_of (slice_cmp nat_cmp) key.file files) (value_of (slice_cmp nat_cmp) key.file after) found
        ∙ state.points key ∙ ap test_of (sym (items_of_others test key rows e))

    pub state_without : IsStateOf (rows_without test rows) after
    state_without = record {
      ascending = names_ascend files after are state.ascending;
      points = λ key. points_by key (bytes_eq key.test test) refl;
      texts = λ checksum i.
          text_stays checksum.line (value_of (slice_cmp nat_cmp) checksum.file files) (value_of (slice_cmp nat_cmp) checksum.file after) (found_without checksum.file files after are)
          ∙ state.texts checksum (held_before test rows checksum i);
      whole = all_whole files after are;
    }

  -- ---- the store

  pub fewer : (table : Table) → AllByRecursion (λ rows. length rows ≤ max_items) table → AllByRecursion (λ rows. length rows ≤ max_items) (without_test test table)
  fewer [] all = tt
  fewer (rows ∷ table) all =
      (omega (arith, all.0, length-filter (λ row. not (is_of_test test row)) rows, count_by-le-length (λ row. not (is_of_test test row)) rows), fewer table all.1)

  pub store_without : (members : ℕ) (committed : Totals) (files after : List (List ℕ × FileData)) → IsStore members committed files → AreWithoutTest test files after → (totals : Totals) → totals ≡ totals_in after → IsStore members totals after
  store_without members committed files after is are totals same =
      let left = rows_left test is.own in
      let state = subst (λ (rows : List Row). IsStateOf rows after) (sym left) (state_without (all_rows is.own) files after is.state are) in
      record {
        own = without_test test is.own;
        state = state;
        agree = state_agrees (all_rows (without_test test is.own)) after state;
        counted = is.counted ∙ sym (length-map is.own (filter (λ row. not (is_of_test test row))));
        few = omega (arith, is.few, length-map is.own (filter (λ row. not (is_of_test test row))));
        small = fewer is.own is.small;
        totals = same;
      }

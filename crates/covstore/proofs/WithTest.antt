-- A file with an empty test added: the file as it is if a look-up finds the test, else the file with an empty test inserted.
use Rattle.covstore.proofs.Words.{◌≡◌, ℕ, Bool, true, false, List, [], sym, ap, ◌∙◌, insert_entry, is_at, slice_cmp, lookup, nat_cmp, cond-true, cond-false, false≢true, with_test, put, value_of, FileData, file_with, TestData, test_of, names_order}
use Rattle.std.specs.Option.{is_some}
use Rattle.covstore.proofs.MapKeys.{seen, seen_insert, seen_there}

module _ {K V : Type 0} (name : K → List ℕ) (f : V → TestData) (file : FileData) (pairs : List (K × V)) (is : seen names_order name f pairs ≡ file.tests) (test : List ℕ) where
  found : (b : Bool) → b ≡ is_some (lookup (is_at (λ other. slice_cmp nat_cmp test (name other))) pairs) → is_some (value_of (slice_cmp nat_cmp) test file.tests) ≡ b
  found b e = ap (λ (tests : List (List ℕ × TestData)). is_some (value_of (slice_cmp nat_cmp) test tests)) (sym is) ∙ seen_there names_order name f test pairs ∙ sym e

  pub not_found : (b : Bool) → b ≡ is_some (lookup (is_at (λ other. slice_cmp nat_cmp test (name other))) pairs) → b ≡ false → is_some (value_of (slice_cmp nat_cmp) test file.tests) ≡ true → ⊥
  not_found b e none there = false≢true (sym none ∙ sym (found b e) ∙ there)

  pub test_there : (b : Bool) → b ≡ is_some (lookup (is_at (λ other. slice_cmp nat_cmp test (name other))) pairs) → b ≡ true → file ≡ with_test test file
  test_there b e there =
      ap (λ (tests : List (List ℕ × TestData)). file_with tests file.index) (sym (cond-true (is_some (value_of (slice_cmp nat_cmp) test file.tests)) file.tests (put (slice_cmp nat_cmp) test (test_of []) file.tests) (found b e ∙ there)))

  pub test_opened : (b : Bool) → b ≡ is_some (lookup (is_at (λ other. slice_cmp nat_cmp test (name other))) pairs) → b ≡ false → (key : K) → name key ≡ test → (v : V) → f v ≡ test_of []
      → (after : List (K × V)) → after ≡ insert_entry (λ a b. slice_cmp nat_cmp (name a) (name b)) pairs key v → file_with (seen names_order name f after) file.index ≡ with_test test file
  test_opened b e none key named v empty after inserted =
      ap (λ (tests : List (List ℕ × TestData)). file_with tests file.index)
      (ap (seen names_order name f) inserted
      ∙ seen_insert names_order name f key v pairs
      ∙ ap (λ (t : List ℕ). put (slice_cmp nat_cmp) t (f v) (seen names_order name f pairs)) named
      ∙ ap (λ (p : TestData). put (slice_cmp nat_cmp) test p (seen names_order name f pairs)) empty
      ∙ ap (put (slice_cmp nat_cmp) test (test_of [])) is
      ∙ sym (cond-false (is_some (value_of (slice_cmp nat_cmp) test file.tests)) file.tests (put (slice_cmp nat_cmp) test (test_of []) file.tests) (found b e ∙ none)))

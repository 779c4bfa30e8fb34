-- Items are added to a test. What this needs and does, said of the file that has the test.
use Rattle.covstore.proofs.Words.{◌≡◌, ℕ, ◌≤◌, ◌^◌, true, false, Some, None, List, length, option_map, sym, ap, ◌∙◌, is_at, slice_cmp, lookup, set_value, nat_cmp, false≢true, ItemData, Row, Adds, Clashes, HasRoomFor, IsIn, AddsItems, ClashesIn, HasFile, HasRoomIn, FileIndexData, put, value_of, FileData, file_with, TestData, names_order}
use Rattle.std.specs.List.Sorted.{IsStrictlySortedBy}
use Rattle.std.specs.Map.{keys_of}
use Rattle.std.specs.Option.{is_some}
use Rattle.covstore.specs.declared.stage.fault.StageFault.{StageFault}
use Rattle.covstore.specs.declared.stage.fault.StageFault.TheVariants.{Clash, Memory}
use Rattle.covstore.proofs.AddsLists.{put_there}
use Rattle.covstore.proofs.MapKeys.{seen, seen_ascend, seen_set, seen_value}

-- ---- a test of a file

module _ (items : List ItemData) (test : List ℕ) (tests : List (List ℕ × TestData)) (points : TestData) (index : FileIndexData) (found : value_of (slice_cmp nat_cmp) test tests ≡ Some points) where
  its_place : (rows : List Row) (files : List (List ℕ × FileData)) (name : List ℕ) → HasFile rows files name (file_with tests index) → IsIn rows files name test tests points index
  its_place rows files name has = record { state = has.state; agree = has.agree; its_file = has.there; its_test = found }

  pub room_for : HasRoomIn items (file_with tests index) → length tests ≤ 2 ^ 63 → HasRoomFor items points index
  room_for room few = record {
    rows = room.rows;
    files = room.files;
    file = room.name;
    name = test;
    tests = tests;
    stands = its_place room.rows room.files room.name room.stands;
    few = room.few;
    few_tests = few;
  }

  pub adds_in : (points_after : TestData) (index_after : FileIndexData) → Adds items points index points_after index_after
      → AddsItems items test (file_with tests index) (file_with (put (slice_cmp nat_cmp) test points_after tests) index_after)
  adds_in points_after index_after adds rows files name has =
      let added = adds rows files name test tests (its_place rows files name has) in
      (added.0, record { state = added.1.state; agree = added.1.agree; there = added.1.its_file })

  pub clashes_in : {A : Type 0} (stop : StageFault A) → Clashes items points index stop → ClashesIn items test (file_with tests index) stop
  clashes_in Memory clash = tt
  clashes_in (Clash line committed given) clash = λ rows files name has. clash rows files name test tests (its_place rows files name has)

-- ---- the entries of a map

module _ {K V : Type 0} (name : K → List ℕ) (f : V → TestData) (test : List ℕ) (pairs : List (K × V)) where
  pub test_value : (v : V) → lookup (is_at (λ other. slice_cmp nat_cmp test (name other))) pairs ≡ Some v → value_of (slice_cmp nat_cmp) test (seen names_order name f pairs) ≡ Some (f v)
  test_value v found = seen_value names_order name f test pairs ∙ ap (option_map f) found

  pub is_new : lookup (is_at (λ other. slice_cmp nat_cmp test (name other))) pairs ≡ None → is_some (value_of (slice_cmp nat_cmp) test (seen names_order name f pairs)) ≡ false
  is_new none = ap is_some (seen_value names_order name f test pairs ∙ ap (option_map f) none)

  pub not_there : lookup (is_at (λ other. slice_cmp nat_cmp test (name other))) pairs ≡ None → is_some (value_of (slice_cmp nat_cmp) test (seen names_order name f pairs)) ≡ true → ⊥
  not_there none there = false≢true (sym (is_new none) ∙ there)

  pub no_test : (points : TestData) → lookup (is_at (λ other. slice_cmp nat_cmp test (name other))) pairs ≡ None → value_of (slice_cmp nat_cmp) test (seen names_order name f pairs) ≡ Some points → ⊥
  no_test points none found = not_there none (ap is_some found)

  module _ (v w : V) (after : List (K × V)) (sorted : IsStrictlySortedBy (λ (a b : K). slice_cmp nat_cmp (name a) (name b)) (keys_of pairs))
      (found : lookup (is_at (λ other. slice_cmp nat_cmp test (name other))) pairs ≡ Some v)
      (written : after ≡ set_value (is_at (λ other. slice_cmp nat_cmp test (name other))) pairs w) where
    pub test_written : seen names_order name f after ≡ put (slice_cmp nat_cmp) test (f w) (seen names_order name f pairs)
    test_written =
        ap (seen names_order name f) written
        ∙ seen_set names_order name f test w pairs (seen_ascend names_order name f pairs sorted) (ap is_some (test_value v found))

    pub test_kept : f w ≡ f v → seen names_order name f after ≡ seen names_order name f pairs
    test_kept same =
        test_written ∙ ap (λ (t : TestData). put (slice_cmp nat_cmp) test t (seen names_order name f pairs)) same
        ∙ put_there names_order test (f v) (seen names_order name f pairs) (seen_ascend names_order name f pairs sorted) (test_value v found)

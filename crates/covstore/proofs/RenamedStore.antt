-- A test's values are copied under another name in a store's maps: the file that has the test is found and replaced.
use Rattle.covstore.proofs.Words.{◌≡◌, ℕ, true, false, Option, Some, None, List, [], ◌∷◌, ◌++◌, Vec, refl, sym, ap, ◌∙◌, subst, is_at, slice_cmp, list_any, lookup, set_value, nat_cmp, bytes_eq, false≢true, File, Totals, KeepsIn, file_staged, file_committed, AreSettledBut, IsSettledBut, IsStore, files_staged, files_committed, value_of, Copies, CopiesIn, HasRoomToCopy, HasRoomToCopyIn, copied_rows, FileData, IsStateOf, has_no_points, points_in, points_or_none, KeepsState, SameCommitted, StoreData, TestData, test_staged, test_committed}
use Rattle.std.specs.List.Sorted.{IsStrictlySortedBy}
use Rattle.std.specs.Map.{keys_of}
use Rattle.std.specs.Option.{is_some}
use Rattle.covstore.proofs.AddsMaps.{file_value, file_written, kept_written, no_place, test_too, written_settled}
use Rattle.covstore.proofs.AddsPlace.{state_agrees}
use Rattle.covstore.proofs.AddsReady.{held_kept}
use Rattle.covstore.proofs.Settled.{file_name}
use Rattle.covstore.proofs.StoreKept.{store_kept}
use Rattle.covstore.proofs.Stores.{store_of}

-- ---- a test with points

-- a test that has points is in its file
with_points : (found : Option TestData) → has_no_points (points_or_none found) ≡ false → (points : TestData) × (found ≡ Some points)
with_points None e = absurd (false≢true (sym e))
with_points (Some points) e = (points, refl)

-- a file in which the test has points is in the store
file_with_points : (test : List ℕ) (found : Option FileData) → has_no_points (points_in found test) ≡ false → is_some found ≡ true
file_with_points test None e = absurd (false≢true (sym e))
file_with_points test (Some file) e = refl

pub file_there : (file old : List ℕ) (store : StoreData) → HasRoomToCopy file old store → is_some (value_of (slice_cmp nat_cmp) file store.staged) ≡ true
file_there file old store room = file_with_points old (value_of (slice_cmp nat_cmp) file store.staged) room.some

-- ---- the file is replaced

module _ {A : Type 0} (files : List (Vec ℕ A × File A)) (members : ℕ) (totals : Totals) (name old new : List ℕ) (store : StoreData)
    (view : store_of members (files_committed file_name files) (files_staged file_name files) totals ≡ store) (given : HasRoomToCopy name old store) where
  -- the store by its parts
  abbrev inside : StoreData
  inside = store_of members (files_committed file_name files) (files_staged file_name files) totals

  room : HasRoomToCopy name old inside
  room = subst (HasRoomToCopy name old) (sym view) given

  pub unfound : lookup (is_at (λ (other : Vec ℕ A). slice_cmp nat_cmp name other.items)) files ≡ None → ⊥
  unfound none = no_place file_name file_staged name files none store.staged (ap (λ (s : StoreData). s.staged) view) (file_there name old store given)

  module _ (before : File A) (found : lookup (is_at (λ (other : Vec ℕ A). slice_cmp nat_cmp name other.items)) files ≡ Some before) where
    there : value_of (slice_cmp nat_cmp) name inside.staged ≡ Some (file_staged before)
    there = file_value file_name name files before found file_staged

    held_there : value_of (slice_cmp nat_cmp) name inside.committed ≡ Some (file_committed before)
    held_there = file_value file_name name files before found file_committed

    source : (points : TestData) × (value_of (slice_cmp nat_cmp) old (file_staged before).tests ≡ Some points)
    source =
        with_points (value_of (slice_cmp nat_cmp) old (file_staged before).tests)
        (ap (λ (f : Option FileData). has_no_points (points_in f old)) (sym there) ∙ room.some)

    -- nothing is staged in the old test
    pub copied_same : value_of (slice_cmp nat_cmp) old (file_staged before).tests ≡ value_of (slice_cmp nat_cmp) old (file_committed before).tests
    copied_same =
        let other = test_too file_name test_staged test_committed old before.tests.entries source.0 source.1 in
        let points : points_in (Some (file_staged before)) old ≡ points_in (Some (file_committed before)) old =
        ap (λ (f : Option FileData). points_in f old) (sym there) ∙ room.same ∙ ap (λ (f : Option FileData). points_in f old) held_there in
        let same : source.0 ≡ other.0 = sym (ap points_or_none source.1) ∙ points ∙ ap points_or_none other.1 in
        source.1 ∙ ap (λ (t : TestData). Some t) same ∙ sym other.1

    pub copied_room : HasRoomToCopyIn old (file_staged before)
    copied_room = record {
      source = source.0;
      its_source = source.1;
      rows = room.rows;
      files = inside.staged;
      name = name;
      stands = record { state = room.state; agree = state_agrees room.rows inside.staged room.state; there = there };
      few = room.few;
    }

    module _ (after : File A) (later : List (Vec ℕ A × File A)) (sorted : IsStrictlySortedBy (λ (a b : Vec ℕ A). slice_cmp nat_cmp a.items b.items) (keys_of files))
        (written : later ≡ set_value (is_at (λ (other : Vec ℕ A). slice_cmp nat_cmp name other.items)) files after) where
      held_keeps : KeepsIn (file_committed before) (file_committed after) → KeepsState (files_committed file_name files) (files_committed file_name later)
      held_keeps = kept_written file_name name files before found after later sorted written file_committed

      pub copied_committed : (committed : Totals) → IsStore members committed (files_committed file_name files) → KeepsIn (file_committed before) (file_committed after) → (now : Totals)
          → SameCommitted store (store_of members (files_committed file_name later) (files_staged file_name later) now)
      copied_committed committed is keeps now = held_kept members committed (files_committed file_name files) (files_committed file_name later) (files_staged file_name files) (files_staged file_name later) totals now store is (held_keeps keeps) view

      pub copied_store : (committed : Totals) (touched more : List (List ℕ × List ℕ)) → IsStore members committed (files_committed file_name files) × AreSettledBut file_name touched files → KeepsIn (file_committed before) (file_committed after)
          → more ≡ touched ++ (name, new) ∷ []
          → ((tests : List (List ℕ)) → list_any (λ own. bytes_eq own new) tests ≡ true → IsSettledBut tests before → IsSettledBut tests after)
          → IsStore members committed (files_committed file_name later) × AreSettledBut file_name more later
      copied_store committed touched more is keeps pushed settled = (
        store_kept members committed (files_committed file_name files) (files_committed file_name later) (held_keeps keeps) is.0,
        subst (λ (names : List (List ℕ × List ℕ)). AreSettledBut file_name names later) (sym pushed) (written_settled touched name new before after files later found written settled is.1),
      )

      pub copied_to : CopiesIn old new (file_staged before) (file_staged after) → Copies name old new store.staged (files_staged file_name later)
      copied_to copies = λ rows state.
          let first : IsStateOf rows inside.staged = subst (λ (s : StoreData). IsStateOf rows s.staged) (sym view) state in
          let copied = copies rows inside.staged name (record { state = first; agree = state_agrees rows inside.staged first; there = there }) in
          subst (λ (fs : List (List ℕ × FileData)). IsStateOf (rows ++ copied_rows name old new rows) fs) (sym (file_written file_name name files before found after later sorted written file_staged)) copied.state

-- The items of a section in the store's map of files: their file is found and replaced, or made and inserted.
use Rattle.covstore.proofs.Words.{◌≡◌, ℕ, Some, None, List, Vec, option_map, refl, sym, ap, ◌∙◌, subst, IfOk, OnOk, insert_entry, is_at, slice_cmp, lookup, set_value, nat_cmp, ItemData, File, Totals, IsExchange, AddsItems, HasRoomIn, KeepsIn, file_staged, file_committed, no_file, AddsTo, ClashesAmong, KeepsState, files_staged, files_committed, ArePairs, put, value_of, FileData, file_totals, totals_in, names_order}
use Rattle.std.specs.Prelude.{Result, Ok, Err}
use Rattle.std.specs.List.Sorted.{IsStrictlySortedBy}
use Rattle.std.specs.Map.{keys_of}
use Rattle.covtable.specs.Refuse.{RefuseData}
use Rattle.covstore.specs.StoreSection.{HasRoomAmong, RefusedIn, rows_of_items}
use Rattle.covstore.proofs.AddsLists.{put_twice}
use Rattle.covstore.proofs.AddsMaps.{file_value, file_written}
use Rattle.covstore.proofs.AddsReady.{file_room, refused, rows_added, totals_exchanged}
use Rattle.covstore.proofs.Keeps.{no_file_keeps}
use Rattle.covstore.proofs.KeepsMore.{keeps_then}
use Rattle.covstore.proofs.MapKeys.{seen, seen_ascend, seen_insert, seen_value}
use Rattle.covstore.proofs.Puts.{ArePairs-put, value_of-put}
use Rattle.covstore.proofs.Settled.{file_name}

-- if a call that succeeds ensures `P` and `Q t`, and these give `R t`, it ensures `R t`
pub totals_of_both : {T E P : Type 0} (r : Result T E) (Q R : T → Type 0) → (P → (t : T) → Q t → R t) → OnOk r P → IfOk r Q → IfOk r R
totals_of_both (Ok t) Q R more p q = more p t q
totals_of_both (Err e) Q R more p q = tt

module _ {A : Type 0} (name test : List ℕ) (items : List ItemData) (pairs : List (Vec ℕ A × File A)) (room : HasRoomAmong (rows_of_items name test items) (files_staged file_name pairs)) where
  -- ---- the file is there

  module _ (before : File A) (found : lookup (is_at (λ (other : Vec ℕ A). slice_cmp nat_cmp name other.items)) pairs ≡ Some before) where
    there : value_of (slice_cmp nat_cmp) name (files_staged file_name pairs) ≡ Some (file_staged before)
    there = file_value file_name name pairs before found file_staged

    same : KeepsState (files_staged file_name pairs) (files_staged file_name pairs)
    same = record { states = λ rows state. state; totals = refl }

    pub found_room : HasRoomIn items (file_staged before)
    found_room = file_room name test items (files_staged file_name pairs) (files_staged file_name pairs) same room (file_staged before) there

    pub found_refused : (refusal : RefuseData) → RefusedIn items name test (file_staged before) refusal → ClashesAmong (rows_of_items name test items) (files_staged file_name pairs) refusal
    found_refused = refused name test items (files_staged file_name pairs) (files_staged file_name pairs) same room (file_staged before) there

    module _ (after : File A) (later : List (Vec ℕ A × File A)) (sorted : IsStrictlySortedBy (λ (a b : Vec ℕ A). slice_cmp nat_cmp a.items b.items) (keys_of pairs))
        (written : later ≡ set_value (is_at (λ (other : Vec ℕ A). slice_cmp nat_cmp name other.items)) pairs after) (adds : AddsItems items test (file_staged before) (file_staged after)) where
      put_in : files_staged file_name later ≡ put (slice_cmp nat_cmp) name (file_staged after) (files_staged file_name pairs)
      put_in = file_written file_name name pairs before found after later sorted written file_staged

      pub found_adds : AddsTo (rows_of_items name test items) (files_staged file_name pairs) (files_staged file_name later)
      found_adds = rows_added name test items (files_staged file_name pairs) (files_staged file_name pairs) same room (file_staged before) there (file_staged after) adds (files_staged file_name later) put_in

      pub found_totals : (was now : Totals) → was ≡ file_totals (file_staged before) → now ≡ file_totals (file_staged after) → IsExchange was now (totals_in (files_staged file_name pairs)) (totals_in (files_staged file_name later))
      found_totals = totals_exchanged name test items (files_staged file_name pairs) (files_staged file_name pairs) same room (file_staged before) there (file_staged after) adds (files_staged file_name later) put_in

  -- ---- the file is new

  module _ (none : lookup (is_at (λ (other : Vec ℕ A). slice_cmp nat_cmp name other.items)) pairs ≡ None) where
    -- the files, with a new file that has no tests
    abbrev ready : (File A → FileData) → List (List ℕ × FileData)
    ready f = put (slice_cmp nat_cmp) name no_file (seen names_order file_name f pairs)

    keeps : (f : File A → FileData) → ArePairs (slice_cmp nat_cmp) (seen names_order file_name f pairs) → KeepsState (seen names_order file_name f pairs) (ready f)
    keeps f ascending = no_file_keeps name (seen names_order file_name f pairs) ascending (seen_value names_order file_name f name pairs ∙ ap (option_map f) none)

    its_place : (f : File A → FileData) → value_of (slice_cmp nat_cmp) name (ready f) ≡ Some no_file
    its_place f = value_of-put names_order name no_file (seen names_order file_name f pairs)

    module _ (made : File A) (staged : file_staged made ≡ no_file) where
      pub new_room : HasRoomIn items (file_staged made)
      new_room =
          subst (HasRoomIn items) (sym staged) (file_room name test items (files_staged file_name pairs) (ready file_staged) (keeps file_staged room.state.ascending) room no_file (its_place file_staged))

      pub new_refused : (refusal : RefuseData) → RefusedIn items name test (file_staged made) refusal → ClashesAmong (rows_of_items name test items) (files_staged file_name pairs) refusal
      new_refused refusal is =
          refused name test items (files_staged file_name pairs) (ready file_staged) (keeps file_staged room.state.ascending) room no_file (its_place file_staged) refusal
          (subst (λ (file : FileData). RefusedIn items name test file refusal) staged is)

      module _ (key : Vec ℕ A) (named : key.items ≡ name) (after : File A) (later : List (Vec ℕ A × File A)) (inserted : later ≡ insert_entry (λ a b. slice_cmp nat_cmp a.items b.items) pairs key after) where
        put_new : (f : File A → FileData) → seen names_order file_name f later ≡ put (slice_cmp nat_cmp) name (f after) (ready f)
        put_new f =
            ap (seen names_order file_name f) inserted
            ∙ seen_insert names_order file_name f key after pairs
            ∙ ap (λ (n : List ℕ). put (slice_cmp nat_cmp) n (f after) (seen names_order file_name f pairs)) named
            ∙ sym (put_twice names_order name no_file (f after) (seen names_order file_name f pairs))

        pub new_keeps : IsStrictlySortedBy (λ (a b : Vec ℕ A). slice_cmp nat_cmp a.items b.items) (keys_of pairs) → file_committed made ≡ no_file → KeepsIn (file_committed made) (file_committed after) → KeepsState (files_committed file_name pairs) (files_committed file_name later)
        new_keeps sorted empty stays =
            let ascending = seen_ascend names_order file_name file_committed pairs sorted in
            subst (KeepsState (files_committed file_name pairs)) (sym (put_new file_committed))
            (keeps_then name no_file (file_committed after) (files_committed file_name pairs) (ready file_committed) (keeps file_committed ascending)
            (ArePairs-put names_order name no_file (files_committed file_name pairs) ascending) (its_place file_committed)
            (subst (λ (file : FileData). KeepsIn file (file_committed after)) empty stays))

        module _ (adds : AddsItems items test (file_staged made) (file_staged after)) where
          adds_first : AddsItems items test no_file (file_staged after)
          adds_first = subst (λ (file : FileData). AddsItems items test file (file_staged after)) staged adds

          pub new_adds : AddsTo (rows_of_items name test items) (files_staged file_name pairs) (files_staged file_name later)
          new_adds =
              rows_added name test items (files_staged file_name pairs) (ready file_staged) (keeps file_staged room.state.ascending) room no_file (its_place file_staged) (file_staged after) adds_first (files_staged file_name later) (put_new file_staged)

          pub new_totals : (was now : Totals) → was ≡ file_totals (file_staged made) → now ≡ file_totals (file_staged after) → IsExchange was now (totals_in (files_staged file_name pairs)) (totals_in (files_staged file_name later))
          new_totals was now was_is now_is =
              totals_exchanged name test items (files_staged file_name pairs) (ready file_staged) (keeps file_staged room.state.ascending) room no_file (its_place file_staged) (file_staged after) adds_first (files_staged file_name later) (put_new file_staged)
              was now (was_is ∙ ap file_totals staged) now_is

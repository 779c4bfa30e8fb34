-- Items that are staged by their spots, in any order. The result is the same as in the order of the section.
use Rattle.covstore.proofs.Words.{◌≡◌, ℕ, ◌+◌, ◌<◌, ◌≤◌, ◌^◌, Option, Some, None, List, [], ◌∷◌, ◌++◌, get_or, length, map, take, sym, ap, ◌∙◌, subst, inl, inr, refl, arith, sum_by, option_to_list, ◌⊎◌, slice_get, take_more, get_or_from_slice_get, slice_get-get_or, slice_get_within, flat_map-append, length-flat_map, sum_by-append, All, ItemData, Row, rows_of_sect, Agree, checksum_of_row, checksums_in, FileIndexData, Each, AreSpotsOf, HasNoChecksum, at_spots, RunOf, runs_of, runs_with, Adds, HasRoomFor, files_with, section_of_items, TestData, In, In-from, In-joined, In-parts, In-unflat}
use Rattle.std.proofs.lemmas.List.{append-nil}
use Rattle.std.proofs.lemmas.List.Sorted.{IsPermutation-sym, sum_by-IsPermutation}
use Rattle.covstore.specs.declared.stage.by_line.Spot.{Spot}
use Rattle.covstore.proofs.RunsAdds.{all_plain}
use Rattle.covstore.proofs.RunsSums.{runs_more}
use Rattle.covtable.proofs.Alike.{AreAlike, alike_mapped, alike_permuted, alike_said}
use Rattle.covtable.proofs.AlikeContents.{agree_alike}
use Rattle.covtable.proofs.Clashes.{agree_none}
use Rattle.covstore.proofs.RenamedTablesState.{state_alike}

-- ---- alike items

either_there : {X : Type 0} (front xs ys : List X) (x : X) → (In x xs → In x ys) → In x front ⊎ In x xs → In x front ⊎ In x ys
either_there front xs ys x there (inl i) = inl i
either_there front xs ys x there (inr i) = inr (there i)

alike_after : {X : Type 0} (front xs ys : List X) → AreAlike xs ys → AreAlike (front ++ xs) (front ++ ys)
alike_after {X} front xs ys alike = record {
  there = λ x i. In-joined front ys x (either_there front xs ys x (alike.there x) (In-parts front xs x i));
  back = λ x i. In-joined front xs x (either_there front ys xs x (alike.back x) (In-parts front ys x i));
  sums = λ f. sum_by-append f front xs ∙ ap (λ (n : ℕ). sum_by f front + n) (alike.sums f) ∙ sym (sum_by-append f front ys);
}

row_with : List ℕ → List ℕ → ItemData → Row
row_with file name item = record { test = name; file = file; item = item }

rows_follow : (rows : List Row) (file name : List ℕ) (xs ys : List ItemData) → AreAlike xs ys
    → AreAlike (rows ++ rows_of_sect (section_of_items file name xs)) (rows ++ rows_of_sect (section_of_items file name ys))
unfolding row_with
rows_follow rows file name xs ys alike =
    alike_after rows (map (λ (item : ItemData). row_with file name item) xs) (map (λ (item : ItemData). row_with file name item) ys)
    (alike_mapped (λ (item : ItemData). row_with file name item) xs ys alike)

pub adds_alike : (xs ys : List ItemData) (a b : TestData) (m n : FileIndexData) → AreAlike xs ys → Adds xs a m b n → Adds ys a m b n
adds_alike xs ys a b m n alike adds rows files file name tests is =
    let some = rows_of_sect (section_of_items file name xs) in
    let others = rows_of_sect (section_of_items file name ys) in
    let after = files_with file name tests b n files in
    let one = adds rows files file name tests is in
    let both : AreAlike (rows ++ some) (rows ++ others) = rows_follow rows file name xs ys alike in
    let agree : Agree (checksums_in (rows ++ others)) = agree_alike (rows ++ some) (rows ++ others) both one.1.agree in (
      agree_none (checksums_in rows) (checksums_in others) is.agree (subst Agree (flat_map-append checksum_of_row rows others) agree),
      record {
        state = state_alike (rows ++ some) (rows ++ others) after both one.1.state;
        agree = agree;
        its_file = one.1.its_file;
        its_test = one.1.its_test;
      },
    )

pub room_alike : (xs ys : List ItemData) (test : TestData) (index : FileIndexData) → length ys ≡ length xs → HasRoomFor xs test index → HasRoomFor ys test index
room_alike xs ys test index same room = record {
  rows = room.rows;
  files = room.files;
  file = room.file;
  name = room.name;
  tests = room.tests;
  stands = room.stands;
  few = subst (λ (n : ℕ). length room.rows + n ≤ 2 ^ 47) (sym same) room.few;
  few_tests = room.few_tests;
}

-- ---- spots

at_spot : {D : Type 0} → List D → Spot → List D
at_spot items spot = option_to_list (slice_get items spot.index)

module _ {D : Type 0} (items : List D) (spots : List Spot) (are : AreSpotsOf items spots) where
  spots_alike : AreAlike (at_spots items spots) items
  unfolding at_spot
  spots_alike =
      subst (λ (xs : List D). AreAlike (at_spots items spots) xs) are.all
      (alike_said (at_spot items) spots are.others (alike_permuted spots are.others (IsPermutation-sym are.others spots are.permuted)))

  as_many : length (at_spots items spots) ≡ length items
  unfolding at_spot
  as_many =
      length-flat_map (at_spot items) spots ∙ sum_by-IsPermutation (λ (spot : Spot). length (at_spot items spot)) are.others spots are.permuted
      ∙ sym (length-flat_map (at_spot items) are.others) ∙ ap length are.all

-- if the spots pick the items before the next one, the spots and the next item's spot pick one item more
pub spot_got : {D : Type 0} (items : List D) (spots : List Spot) (spot : Spot) (item : D) → spot.index < length items → slice_get items spot.index ≡ Some item → at_spots items spots ≡ take spot.index items
    → at_spots items (spots ++ spot ∷ []) ≡ take (spot.index + 1) items
unfolding at_spot
spot_got {D} items spots spot item within here so_far =
    let is : item ≡ get_or items spot.index item = sym (get_or_from_slice_get items spot.index item item here) in
    flat_map-append (at_spot items) spots (spot ∷ []) ∙ ap (λ (xs : List D). at_spots items spots ++ xs) (append-nil (at_spot items spot))
    ∙ ap (λ (o : Option D). at_spots items spots ++ option_to_list o) here ∙ ap (λ (xs : List D). xs ++ item ∷ []) so_far
    ∙ ap (λ (x : D). take spot.index items ++ x ∷ []) is ∙ sym (take_more items spot.index item within)

-- there is an element at each index below the length
pub got_within : {D : Type 0} (items : List D) (i : ℕ) → i < length items → slice_get items i ≡ None → ⊥
got_within [] i within none = absurd (omega (arith, within))
got_within (x ∷ xs) i within none = absurd (let e = sym (slice_get-get_or (x ∷ xs) i x within) ∙ none in cc)

-- ---- the item at a spot

module _ {D : Type 0} (items : List D) (spots : List Spot) (k : ℕ) (spot : Spot) (within : k < length spots) where
  at_taken : (here : Option D) → slice_get items (get_or spots k spot).index ≡ here → at_spots items (take (k + 1) spots) ≡ at_spots items (take k spots) ++ option_to_list here
  unfolding at_spot
  at_taken here found =
      ap (at_spots items) (take_more spots k spot within)
      ∙ flat_map-append (at_spot items) (take k spots) (get_or spots k spot ∷ [])
      ∙ ap (λ (xs : List D). at_spots items (take k spots) ++ xs) (append-nil (at_spot items (get_or spots k spot)))
      ∙ ap (λ (o : Option D). at_spots items (take k spots) ++ option_to_list o) found

module _ (items : List ItemData) (spots : List Spot) (k : ℕ) (spot : Spot) (within : k < length spots) where
  -- if there is an item at the next spot, the runs with this item are those of one spot more
  pub run_at_spot : (item : ItemData) → slice_get items (get_or spots k spot).index ≡ Some item → (runs more : Each RunOf) → runs ≡ runs_of (at_spots items (take k spots))
      → more ≡ runs_with item runs → more ≡ runs_of (at_spots items (take (k + 1) spots))
  run_at_spot item found runs more so_far with_it =
      let before = at_spots items (take k spots) in
      with_it ∙ ap (runs_with item) so_far ∙ sym (runs_more before item) ∙ ap runs_of (sym (at_taken items spots k spot within (Some item) found))

  pub none_at_spot : slice_get items (get_or spots k spot).index ≡ None → (runs : Each RunOf) → runs ≡ runs_of (at_spots items (take k spots))
      → runs ≡ runs_of (at_spots items (take (k + 1) spots))
  none_at_spot found runs so_far =
      so_far ∙ ap runs_of (sym (at_taken items spots k spot within None found ∙ append-nil (at_spots items (take k spots))))

-- ---- the items at spots

pub spots_joined : {D : Type 0} (items : List D) (xs ys : List Spot) → at_spots items (xs ++ ys) ≡ at_spots items xs ++ at_spots items ys
unfolding at_spot
spots_joined items xs ys = flat_map-append (at_spot items) xs ys

got_there : {D : Type 0} (items : List D) (i : ℕ) (item : D) (here : Option D) → slice_get items i ≡ here → In item (option_to_list here) → In item items
got_there items i item None found there = absurd there
got_there {D} items i item (Some got) found (inr none) = absurd none
got_there {D} items i item (Some got) found (inl same) =
    subst (λ (d : D). In d items) same (In-from items got (i, slice_get_within items i got found, get_or_from_slice_get items i got got found))

-- if none of the items has a checksum, no item at a spot has one
pub spots_plain : (items : List ItemData) (spots : List Spot) → All HasNoChecksum items → (item : ItemData) → In item (at_spots items spots) → HasNoChecksum item
unfolding at_spot
spots_plain items spots plain =
    all_plain items (at_spots items spots)
    (λ item i. let from = In-unflat (at_spot items) spots item i in got_there items from.0.index item (slice_get items from.0.index) refl from.2) plain

module _ (items : List ItemData) (spots : List Spot) (are : AreSpotsOf items spots) where
  pub spots_have_room : (test : TestData) (index : FileIndexData) → HasRoomFor items test index → HasRoomFor (at_spots items spots) test index
  spots_have_room test index room =
      room_alike items (at_spots items spots) test index (as_many items spots are) room

  pub spots_add : (test after : TestData) (index more : FileIndexData) → Adds (at_spots items spots) test index after more → Adds items test index after more
  spots_add test after index more adds =
      adds_alike (at_spots items spots) items test after index more (spots_alike items spots are) adds

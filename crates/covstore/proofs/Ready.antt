-- A file that is prepared before rows are added to it. What is added to the prepared file is added to the file as it was.
use Rattle.covstore.proofs.Words.{◌≡◌, ℕ, Bool, true, false, List, [], ◌++◌, refl, ◌∙◌, subst, slice_cmp, nat_cmp, ItemData, Row, rows_of_sect, AddsItems, ClashesIn, HasFile, HasRoomIn, KeepsIn, tests_with, put, value_of, CopiesIn, HasRoomToCopyIn, copied_rows, section_of_items, FileData, TestData, test_of, names_order}
use Rattle.std.specs.Prelude.{if◌then◌else◌}
use Rattle.std.specs.Option.{is_some}
use Rattle.covstore.specs.declared.stage.fault.StageFault.{StageFault}
use Rattle.covstore.specs.declared.stage.fault.StageFault.TheVariants.{Clash, Memory}
use Rattle.covstore.proofs.AddsLists.{put_twice}
use Rattle.covstore.proofs.Puts.{value_of-put, value_of-put_other}

module _ (file ready : FileData) (keeps : KeepsIn file ready) where
  stands_ready : (rows : List Row) (files : List (List ℕ × FileData)) (name : List ℕ) → HasFile rows files name file → HasFile rows (put (slice_cmp nat_cmp) name ready files) name ready
  stands_ready rows files name has = record {
    state = (keeps files name has.state.ascending has.there).states rows has.state;
    agree = has.agree;
    there = value_of-put names_order name ready files;
  }

  pub room_ready : (items : List ItemData) → HasRoomIn items file → HasRoomIn items ready
  room_ready items room = record {
    rows = room.rows;
    files = put (slice_cmp nat_cmp) room.name ready room.files;
    name = room.name;
    stands = stands_ready room.rows room.files room.name room.stands;
    few = room.few;
  }

  pub adds_ready : (items : List ItemData) (test : List ℕ) (after : FileData) → AddsItems items test ready after → AddsItems items test file after
  adds_ready items test after adds rows files name has =
      let more = rows_of_sect (section_of_items name test items) in
      let added = adds rows (put (slice_cmp nat_cmp) name ready files) name (stands_ready rows files name has) in (
        added.0,
        subst (λ (fs : List (List ℕ × FileData)). HasFile (rows ++ more) fs name after) (put_twice names_order name ready after files) added.1,
      )

  pub clashes_ready : {A : Type 0} (items : List ItemData) (test : List ℕ) (stop : StageFault A) → ClashesIn items test ready stop → ClashesIn items test file stop
  clashes_ready items test Memory clash = tt
  clashes_ready items test (Clash line held given) clash = λ rows files name has. clash rows (put (slice_cmp nat_cmp) name ready files) name (stands_ready rows files name has)

  pub copies_ready : (old new : List ℕ) (after : FileData) → CopiesIn old new ready after → CopiesIn old new file after
  copies_ready old new after copies rows files name has =
      subst (λ (fs : List (List ℕ × FileData)). HasFile (rows ++ copied_rows name old new rows) fs name after) (put_twice names_order name ready after files)
      (copies rows (put (slice_cmp nat_cmp) name ready files) name (stands_ready rows files name has))

  pub room_to_copy : (old : List ℕ) → value_of (slice_cmp nat_cmp) old ready.tests ≡ value_of (slice_cmp nat_cmp) old file.tests → HasRoomToCopyIn old file → HasRoomToCopyIn old ready
  room_to_copy old same room = record {
    source = room.source;
    its_source = same ∙ room.its_source;
    rows = room.rows;
    files = put (slice_cmp nat_cmp) room.name ready room.files;
    name = room.name;
    stands = stands_ready room.rows room.files room.name room.stands;
    few = room.few;
  }

-- ---- a test without points is added

-- the other tests stay
pub other_test : (test other : List ℕ) (tests : List (List ℕ × TestData)) → (test ≡ other → ⊥) → value_of (slice_cmp nat_cmp) other (tests_with test tests) ≡ value_of (slice_cmp nat_cmp) other tests
other_test test other tests apart = at (is_some (value_of (slice_cmp nat_cmp) test tests))
  where
    at : (b : Bool) → value_of (slice_cmp nat_cmp) other (if b then tests else put (slice_cmp nat_cmp) test (test_of []) tests) ≡ value_of (slice_cmp nat_cmp) other tests
    at true = refl
    at false = value_of-put_other names_order test other (test_of []) tests apart

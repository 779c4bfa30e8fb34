-- If there is room for items, there is room for the first ones, and then for the others.
use Rattle.covstore.proofs.Words.{List, ◌++◌, arith, slice_cmp, nat_cmp, length-append, length-map, ItemData, Row, rows_of_sect, file_with, Adds, HasRoomFor, files_with, section_of_items, FileIndexData, put, HasRoom, TestData, names_order}
use Rattle.covstore.proofs.AddsFew.{kept_few}
use Rattle.covstore.proofs.AddsLists.{length-put_there}
use Rattle.covstore.proofs.AddsPlace.{as_many, its_back, its_front, its_kept, its_whole}

pub has_room : (items : List ItemData) (test : TestData) (index : FileIndexData) → HasRoomFor items test index → HasRoom test index
has_room items test index room =
    let kept = kept_few room.rows room.files room.stands.state room.file (file_with room.tests index) room.stands.its_file in
    record {
      front = its_front room.stands;
      back = its_back room.stands;
      kept = its_kept room.stands;
      few_tests = omega (arith, as_many room.stands, room.few_tests);
      few = λ kind. omega (arith, kept kind, room.few);
    }

-- if there is room for two lists of items, there is room for the first, and after it is added, for the second
module _ (some items : List ItemData) (test : TestData) (index : FileIndexData) (room : HasRoomFor (some ++ items) test index) where
  pub room_of_some : HasRoomFor some test index
  room_of_some = record {
    rows = room.rows;
    files = room.files;
    file = room.file;
    name = room.name;
    tests = room.tests;
    stands = room.stands;
    few = omega (arith, length-append some items, room.few);
    few_tests = room.few_tests;
  }

  pub room_later : (test_after : TestData) (index_after : FileIndexData) → Adds some test index test_after index_after → HasRoomFor items test_after index_after
  room_later test_after index_after adds =
      let more = rows_of_sect (section_of_items room.file room.name some) in
      let there = adds room.rows room.files room.file room.name room.tests room.stands in
      record {
        rows = room.rows ++ more;
        files = files_with room.file room.name room.tests test_after index_after room.files;
        file = room.file;
        name = room.name;
        tests = put (slice_cmp nat_cmp) room.name test_after room.tests;
        stands = there.1;
        few = omega (arith, length-append room.rows more, length-map {B = Row} some (λ item. record { test = room.name; file = room.file; item = item }), length-append some items, room.few);
        few_tests = omega (arith, length-put_there names_order room.name test test_after room.tests (its_whole room.stands).ascending room.stands.its_test, room.few_tests);
      }

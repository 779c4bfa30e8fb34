-- The items of a section are added to their file. What this needs and does, said of the files of the store.
use Rattle.covstore.proofs.Words.{◌≡◌, ℕ, ◌≤◌, ◌^◌, ◌+◌, Some, List, ◌++◌, length, ap, ◌∙◌, arith, slice_cmp, nat_cmp, length-append, length-map, ItemData, Row, rows_of_sect, Totals, section_of_items, Agree, checksums_in, FitTogether, exchanged, AddsItems, HasFile, HasRoomIn, AddsTo, put, value_of, FileData, IsStateOf, file_totals, totals_in}
use Rattle.covstore.proofs.ExchangedFiles.{exchanged_fits, files_exchanged}

module _ (items : List ItemData) (name test : List ℕ) (file : FileData) (files : List (List ℕ × FileData)) (there : value_of (slice_cmp nat_cmp) name files ≡ Some file) where
  its_file : (rows : List Row) → IsStateOf rows files → Agree (checksums_in rows) → HasFile rows files name file
  its_file rows state agree = record { state = state; agree = agree; there = there }

  pub room_in : (rows : List Row) → IsStateOf rows files → Agree (checksums_in rows)
      → length rows + length (rows_of_sect (section_of_items name test items)) ≤ 2 ^ 47 → HasRoomIn items file
  room_in rows state agree few = record {
    rows = rows;
    files = files;
    name = name;
    stands = its_file rows state agree;
    few = omega (arith, few, length-map {B = Row} items (λ item. record { test = test; file = name; item = item }));
  }

  module _ (after : FileData) (adds : AddsItems items test file after) where
    pub section_adds : AddsTo (rows_of_sect (section_of_items name test items)) files (put (slice_cmp nat_cmp) name after files)
    section_adds rows state agree = let added = adds rows files name (its_file rows state agree) in (added.0, added.1.state, added.1.agree)

    pub section_fits : (rows : List Row) → IsStateOf rows files → Agree (checksums_in rows) → length rows + length (rows_of_sect (section_of_items name test items)) ≤ 2 ^ 47 → FitTogether (file_totals after) (totals_in files)
    section_fits rows state agree few =
        let added = adds rows files name (its_file rows state agree) in
        let more = rows ++ rows_of_sect (section_of_items name test items) in
        exchanged_fits rows more files (put (slice_cmp nat_cmp) name after files) name after state added.1.state added.1.there
        (omega (arith, few)) (omega (arith, few, length-append rows (rows_of_sect (section_of_items name test items))))

    pub section_totals : (rows : List Row) → IsStateOf rows files → (totals : Totals) → totals ≡ totals_in files
        → exchanged totals (file_totals file) (file_totals after) ≡ totals_in (put (slice_cmp nat_cmp) name after files)
    section_totals rows state totals is =
        ap (λ (t : Totals). exchanged t (file_totals file) (file_totals after)) is ∙ files_exchanged name file after files state.ascending there

-- A state after one file changes: with the same points and texts, or with more rows of one of its tests.
use Rattle.covstore.proofs.Words.{◌≡◌, ℕ, false, Option, Some, List, [], ◌∷◌, ◌++◌, filter, map, refl, sym, ap, ◌∙◌, subst, inl, inr, ⊎_elim, ◌⊎◌, Contains, slice_cmp, nat_cmp, bytes_eq, cond-true, cond-false, false_from_ne_true, flat_map-append, bytes_eq-Decides, ItemData, Row, rows_of_sect, Checksum, checksum_of_row, checksums_in, put, value_of, with_items, section_of_items, FileData, IsStateOf, IsConsistentFile, points_at, points_in, text_in, TestData, test_of, Key, has_key, items_at, same_or_not, In-unflat, All-in, In, In-from, In-unmap, Contains-from, In-parts, names_order}
use Rattle.std.proofs.lemmas.List.{append-nil}
use Rattle.covtable.proofs.ContentsChecksums.{line_of_said, own_row}
use Rattle.covtable.proofs.ContentsSections.{both, items_at-append}
use Rattle.covstore.proofs.Puts.{All-put, ArePairs-put, pair_in, value_of-put, value_of-put_other}
use Rattle.covstore.proofs.RunsSums.{sums_more_items}
use Rattle.covstore.proofs.StateSections.{points_same, points_there}

pub name_or_not : (one other : List ℕ) → (one ≡ other) ⊎ (one ≡ other → ⊥)
name_or_not one other = same_or_not (slice_cmp nat_cmp) names_order one other (slice_cmp nat_cmp one other) refl

-- a file of a state is consistent
pub file_whole : (rows : List Row) (files : List (List ℕ × FileData)) → IsStateOf rows files → (name : List ℕ) (file : FileData) → value_of (slice_cmp nat_cmp) name files ≡ Some file → IsConsistentFile file
file_whole rows files state name file there = All-in (λ (pair : List ℕ × FileData). IsConsistentFile pair.1) files (name, file) state.whole (pair_in names_order name file files there)

-- ---- one file has changed, and the others haven't

-- the changed file is what its rows in `more` add up to. In other files, `more` has the same items as `rows`, and no other
-- checksums
pub record IsChange (rows more : List Row) (name : List ℕ) (after : FileData) : Type 0 where
  pub whole : IsConsistentFile after
  pub points : (test : List ℕ) → points_in (Some after) test ≡ test_of (items_at (record { file = name; test = test }) more)
  pub others : (key : Key) → (name ≡ key.file → ⊥) → items_at key more ≡ items_at key rows
  pub texts : (held : Checksum) → Contains (checksums_in more) held → name ≡ held.file → value_of nat_cmp held.line after.index.texts ≡ Some held.checksum
  pub held_before : (held : Checksum) → Contains (checksums_in more) held → (name ≡ held.file → ⊥) → Contains (checksums_in rows) held

module _ (rows more : List Row) (files : List (List ℕ × FileData)) (state : IsStateOf rows files) (name : List ℕ) (after : FileData) (change : IsChange rows more name after) where
  abbrev files_after : List (List ℕ × FileData)
  files_after = put (slice_cmp nat_cmp) name after files

  found_after : (file : List ℕ) → name ≡ file → value_of (slice_cmp nat_cmp) file files_after ≡ Some after
  found_after file is = ap (λ (f : List ℕ). value_of (slice_cmp nat_cmp) f files_after) (sym is) ∙ value_of-put names_order name after files

  found_before : (file : List ℕ) → (name ≡ file → ⊥) → value_of (slice_cmp nat_cmp) file files_after ≡ value_of (slice_cmp nat_cmp) file files
  found_before file other = value_of-put_other names_order name file after files other

  points_after : (key : Key) → (name ≡ key.file) ⊎ (name ≡ key.file → ⊥) → points_at key files_after ≡ test_of (items_at key more)
  points_after key (inl is) =
      ap (λ (found : Option FileData). points_in found key.test) (found_after key.file is) ∙ change.points key.test
      ∙ ap (λ (file : List ℕ). test_of (items_at (record { file = file; test = key.test }) more)) is
  points_after key (inr other) =
      ap (λ (found : Option FileData). points_in found key.test) (found_before key.file other) ∙ state.points key ∙ ap test_of (sym (change.others key other))

  texts_after : (held : Checksum) → Contains (checksums_in more) held → (name ≡ held.file) ⊎ (name ≡ held.file → ⊥) → text_in (value_of (slice_cmp nat_cmp) held.file files_after) held.line ≡ Some held.checksum
  texts_after held i (inl is) = ap (λ (found : Option FileData). text_in found held.line) (found_after held.file is) ∙ change.texts held i is
  texts_after held i (inr other) = ap (λ (found : Option FileData). text_in found held.line) (found_before held.file other) ∙ state.texts held (change.held_before held i other)

  pub state_changed : IsStateOf more (put (slice_cmp nat_cmp) name after files)
  state_changed = record {
    ascending = ArePairs-put names_order name after files state.ascending;
    points = λ key. points_after key (name_or_not name key.file);
    texts = λ held i. texts_after held i (name_or_not name held.file);
    whole = All-put names_order (λ (pair : List ℕ × FileData). IsConsistentFile pair.1) name after files change.whole state.whole;
  }

-- ---- a file with the same points and the same texts

pub same_rows : (rows : List Row) (files : List (List ℕ × FileData)) → IsStateOf rows files → (name : List ℕ) (after : FileData) → IsConsistentFile after
    → ((test : List ℕ) → points_in (Some after) test ≡ points_in (value_of (slice_cmp nat_cmp) name files) test)
    → ((line : ℕ) (text : List ℕ) → text_in (value_of (slice_cmp nat_cmp) name files) line ≡ Some text → value_of nat_cmp line after.index.texts ≡ Some text)
    → IsStateOf rows (put (slice_cmp nat_cmp) name after files)
same_rows rows files state name after whole points texts = state_changed rows rows files state name after (record {
  whole = whole;
  points = λ test. points test ∙ state.points (record { file = name; test = test });
  others = λ key other. refl;
  texts = λ held i is. texts held.line held.checksum
      (ap (λ (file : List ℕ). text_in (value_of (slice_cmp nat_cmp) file files) held.line) is ∙ state.texts held i);
  held_before = λ held i other. i;
})

-- ---- more rows of one file and test

module _ (name test : List ℕ) where
  abbrev row_with : ItemData → Row
  row_with item = record { test = test; file = name; item = item }

  abbrev more_rows : List ItemData → List Row
  more_rows items = rows_of_sect (section_of_items name test items)

  -- these rows have no other key
  not_has_key : (key : Key) (item : ItemData) → (name ≡ key.file → test ≡ key.test → ⊥) → has_key key (row_with item) ≡ false
  not_has_key key item other =
      false_from_ne_true (has_key key (row_with item))
      (λ e.
      let parts = both (bytes_eq name key.file) (bytes_eq test key.test) e in
      other ((bytes_eq-Decides name key.file).0 parts.0) ((bytes_eq-Decides test key.test).0 parts.1))

  none_more : (key : Key) (items : List ItemData) → (name ≡ key.file → test ≡ key.test → ⊥) → filter (has_key key) (more_rows items) ≡ []
  none_more key [] other = refl
  none_more key (item ∷ items) other =
      let rest = filter (has_key key) (more_rows items) in
      cond-false (has_key key (row_with item)) (row_with item ∷ rest) rest (not_has_key key item other) ∙ none_more key items other

  own_more : (items : List ItemData) → items_at (record { file = name; test = test }) (more_rows items) ≡ items
  own_more [] = refl
  own_more (item ∷ items) =
      let key : Key = record { file = name; test = test } in
      let rest = filter (has_key key) (more_rows items) in
      ap (map (λ (row : Row). row.item)) (cond-true (has_key key (row_with item)) (row_with item ∷ rest) rest (own_row (row_with item))) ∙ ap (λ (others : List ItemData). item ∷ others) (own_more items)

  items_as_before : (key : Key) (rows : List Row) (items : List ItemData) → (name ≡ key.file → test ≡ key.test → ⊥) → items_at key (rows ++ more_rows items) ≡ items_at key rows
  items_as_before key rows items other =
      items_at-append key rows (more_rows items)
      ∙ ap (λ (own : List Row). items_at key rows ++ map (λ (r : Row). r.item) own) (none_more key items other)
      ∙ append-nil (items_at key rows)

  items_more : (rows : List Row) (items : List ItemData) → items_at (record { file = name; test = test }) (rows ++ more_rows items) ≡ items_at (record { file = name; test = test }) rows ++ items
  items_more rows items =
      let key : Key = record { file = name; test = test } in
      items_at-append key rows (more_rows items) ∙ ap (λ (own : List ItemData). items_at key rows ++ own) (own_more items)

  -- the checksums of other files are those of the rows before
  held_of_others : (rows : List Row) (items : List ItemData) (held : Checksum) → Contains (checksums_in (rows ++ more_rows items)) held → (name ≡ held.file → ⊥) → Contains (checksums_in rows) held
  held_of_others rows items held i other =
      ⊎_elim {C = Contains (checksums_in rows) held}
      (λ (before : In held (checksums_in rows)). Contains-from (checksums_in rows) held before)
      (λ (now : In held (checksums_in (more_rows items))).
      let own = In-unflat checksum_of_row (more_rows items) held now in
      let from = In-unmap row_with items own.0 own.1 in
      absurd (other (ap (λ (r : Row). r.file) from.2 ∙ (line_of_said own.0.file held own.0.item own.2).0)))
      (In-parts (checksums_in rows) (checksums_in (more_rows items)) held
      (subst (In held) (flat_map-append checksum_of_row rows (more_rows items)) (In-from (checksums_in (rows ++ more_rows items)) held i)))

  module _ (rows : List Row) (items : List ItemData) (files : List (List ℕ × FileData)) (file after : FileData) (points : TestData) where
    points_more : IsStateOf rows files → value_of (slice_cmp nat_cmp) name files ≡ Some file → value_of (slice_cmp nat_cmp) test file.tests ≡ Some points
        → after.tests ≡ put (slice_cmp nat_cmp) test (with_items items points) file.tests → (other : List ℕ) → (test ≡ other) ⊎ (test ≡ other → ⊥)
        → points_in (Some after) other ≡ test_of (items_at (record { file = name; test = other }) (rows ++ more_rows items))
    points_more state in_files in_tests more other (inl is) =
        let key : Key = record { file = name; test = test } in
        let found : value_of (slice_cmp nat_cmp) test after.tests ≡ Some (with_items items points) =
        ap (value_of (slice_cmp nat_cmp) test) more ∙ value_of-put names_order test (with_items items points) file.tests in
        let before : points ≡ test_of (items_at key rows) =
        sym (points_there file test points in_tests) ∙ ap (λ (kept : Option FileData). points_in kept test) (sym in_files) ∙ state.points key in
        ap (points_in (Some after)) (sym is) ∙ points_there after test (with_items items points) found ∙ ap (with_items items) before ∙ sym (sums_more_items (items_at key rows) items)
        ∙ ap test_of (sym (items_more rows items)) ∙ ap (λ (t : List ℕ). test_of (items_at (record { file = name; test = t }) (rows ++ more_rows items))) is
    points_more state in_files in_tests more other (inr apart) =
        let key : Key = record { file = name; test = other } in
        points_same after file other (ap (value_of (slice_cmp nat_cmp) other) more ∙ value_of-put_other names_order test other (with_items items points) file.tests apart)
        ∙ ap (λ (kept : Option FileData). points_in kept other) (sym in_files) ∙ state.points key ∙ ap test_of (sym (items_as_before key rows items (λ same is. apart is)))

    -- with the rows added, the state is that of the files with this file replaced
    pub rows_more : IsStateOf rows files → value_of (slice_cmp nat_cmp) name files ≡ Some file → value_of (slice_cmp nat_cmp) test file.tests ≡ Some points
        → after.tests ≡ put (slice_cmp nat_cmp) test (with_items items points) file.tests → IsConsistentFile after
        → ((held : Checksum) → Contains (checksums_in (rows ++ more_rows items)) held → held.file ≡ name → value_of nat_cmp held.line after.index.texts ≡ Some held.checksum)
        → IsStateOf (rows ++ more_rows items) (put (slice_cmp nat_cmp) name after files)
    rows_more state in_files in_tests more whole texts = state_changed rows (rows ++ more_rows items) files state name after (record {
      whole = whole;
      points = λ other. points_more state in_files in_tests more other (name_or_not test other);
      others = λ key other. items_as_before key rows items (λ file test. other file);
      texts = λ held i is. texts held i (sym is);
      held_before = held_of_others rows items;
    })

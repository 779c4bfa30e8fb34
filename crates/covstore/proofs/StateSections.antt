-- The sections of a state are what its rows add up to.
use Rattle.covstore.proofs.Words.{◌≡◌, ℕ, true, Option, Some, None, List, [], ◌∷◌, map, filter, refl, sym, ap, ◌∙◌, subst, inl, slice_cmp, nat_cmp, on_total, ItemData, Row, Agree, Checksum, checksums_in, SectionData, section_of, content_of, value_of, FileData, IsStateOf, IsConsistentFile, points_in, points_or_none, section_seen, sections_of, sections_of_file, text_in, TestData, test_of, Key, key_cmp, key_of_row, keys_of, has_key, items_at, In-ascending, In-to_ascending, ascending_sorted, one_sorted, In-flat, In-unflat, In-filter, In-unfilter, In, In-from, Contains-from, All-in, In-map, In-unmap, keys_order, names_order}
use Rattle.covtable.proofs.ContentsChecksums.{line_checksum_held, own_row}
use Rattle.covtable.proofs.ContentsSections.{own_key}
use Rattle.covstore.proofs.Puts.{pair_in, value_of_pair}
use Rattle.covstore.proofs.StateOrder.{made_sorted, section_of_test, state_sorted}
use Rattle.covstore.proofs.StateSeen.{HasChecksums, HasNone, seen_as, seen_is, some_points_of}

-- ---- what a file keeps of a test

-- the points of a test of the file
pub points_there : (file : FileData) (test : List ℕ) (points : TestData) → value_of (slice_cmp nat_cmp) test file.tests ≡ Some points → points_in (Some file) test ≡ points
points_there file test points e = ap points_or_none e

pub points_none : (file : FileData) (test : List ℕ) → value_of (slice_cmp nat_cmp) test file.tests ≡ None → points_in (Some file) test ≡ test_of []
points_none file test e = ap points_or_none e

-- only the value at the test's name matters
pub points_same : (file other : FileData) (test : List ℕ) → value_of (slice_cmp nat_cmp) test file.tests ≡ value_of (slice_cmp nat_cmp) test other.tests → points_in (Some file) test ≡ points_in (Some other) test
points_same file other test e = ap points_or_none e

-- the file's texts have the checksums of the items of its tests
module _ (rows : List Row) (files : List (List ℕ × FileData)) (state : IsStateOf rows files) where
  pub file_has_checksums : (key : Key) (file : FileData) → value_of (slice_cmp nat_cmp) key.file files ≡ Some file → HasChecksums file.index.texts (items_at key rows)
  file_has_checksums key file there line said e =
      let checksum : Checksum = record { file = key.file; line = line; checksum = said } in
      ap (λ (found : Option FileData). text_in found line) (sym there)
      ∙ state.texts checksum (Contains-from (checksums_in rows) checksum (line_checksum_held rows key line said e))

  -- ---- each section has a key of the rows

  file_of_pair : (pair : List ℕ × FileData) → In pair files → value_of (slice_cmp nat_cmp) pair.0 files ≡ Some pair.1
  file_of_pair pair i = value_of_pair names_order pair.0 pair.1 files state.ascending i

  points_of_pair : (pair : List ℕ × FileData) (test : List ℕ × TestData) → In pair files → In test pair.1.tests → test.1 ≡ test_of (items_at (record { file = pair.0; test = test.0 }) rows)
  points_of_pair pair test i j =
      let whole : IsConsistentFile pair.1 = All-in (λ (p : List ℕ × FileData). IsConsistentFile p.1) files pair state.whole i in
      sym (points_there pair.1 test.0 test.1 (value_of_pair names_order test.0 test.1 pair.1.tests whole.ascending j))
      ∙ ap (λ (found : Option FileData). points_in found test.0) (sym (file_of_pair pair i))
      ∙ state.points (record { file = pair.0; test = test.0 })

  key_there : (key : Key) (item : ItemData) → In item (items_at key rows) → In key (keys_of rows)
  key_there key item i =
      let row = In-unmap (λ (r : Row). r.item) (filter (has_key key) rows) item i in
      let own = In-unfilter (has_key key) rows row.0 row.1 in
      In-to_ascending keys_order.exact key (map key_of_row rows) (subst (λ (k : Key). In k (map key_of_row rows)) (own_key key row.0 own.1) (In-map key_of_row rows row.0 own.0))

  seen_there : (section : SectionData) → In section (sections_of files) → In section (content_of rows)
  seen_there section i =
      let pair = In-unflat sections_of_file files section i in
      let test = section_of_test pair.0 section pair.2 in
      let key : Key = record { file = pair.0.0; test = test.0.0 } in
      let items = items_at key rows in
      let seen = seen_is key pair.0.1.index.texts items section (file_has_checksums key pair.0.1 (file_of_pair pair.0 pair.1))
      (subst (λ (points : TestData). In section (section_seen pair.0.0 pair.0.1.index.texts test.0.0 points)) (points_of_pair pair.0 test.0 pair.1 test.1) test.2) in
      subst (λ (s : SectionData). In s (content_of rows)) seen.0 (In-map (section_of rows) (keys_of rows) key (key_there key seen.1 seen.2))

  -- ---- each key of the rows has a section

  item_there : (key : Key) → In key (keys_of rows) → (item : ItemData) × In item (items_at key rows)
  item_there key i =
      let row = In-unmap key_of_row rows key (In-ascending keys_order.exact key (map key_of_row rows) i) in
      let own = subst (λ (k : Key). has_key k row.0 ≡ true) row.2 (own_row row.0) in
      (row.0.item, In-map (λ (r : Row). r.item) (filter (has_key key) rows) row.0 (In-filter (has_key key) rows row.0 row.1 own))

  -- a key with an item has points, so its file and its test can't be missing
  not_missing : (key : Key) (item : ItemData) → In item (items_at key rows) → test_of [] ≡ test_of (items_at key rows) → ⊥
  not_missing key item i e = some_points_of (items_at key rows) item i (subst HasNone e (record { lines = refl; functions = refl; branches = refl }))

  test_there : (key : Key) (item : ItemData) (file : FileData) (kept : Option TestData) → In item (items_at key rows) → value_of (slice_cmp nat_cmp) key.file files ≡ Some file
      → value_of (slice_cmp nat_cmp) key.test file.tests ≡ kept → (points : TestData) × In (key.test, points) file.tests × (points ≡ test_of (items_at key rows))
  test_there key item file None i there e =
      absurd (not_missing key item i (sym (points_none file key.test e) ∙ ap (λ (found : Option FileData). points_in found key.test) (sym there) ∙ state.points key))
  test_there key item file (Some points) i there e = (
    points,
    pair_in names_order key.test points file.tests e,
    sym (points_there file key.test points e) ∙ ap (λ (found : Option FileData). points_in found key.test) (sym there) ∙ state.points key,
  )

  kept_there : (key : Key) (item : ItemData) (found : Option FileData) → In item (items_at key rows) → value_of (slice_cmp nat_cmp) key.file files ≡ found
      → (file : FileData) × (value_of (slice_cmp nat_cmp) key.file files ≡ Some file) × (points : TestData) × In (key.test, points) file.tests × (points ≡ test_of (items_at key rows))
  kept_there key item None i e = absurd (not_missing key item i (sym (ap (λ (found : Option FileData). points_in found key.test) e) ∙ state.points key))
  kept_there key item (Some file) i e = let test = test_there key item file (value_of (slice_cmp nat_cmp) key.test file.tests) i e refl in (file, e, test.0, test.1, test.2)

  shown : (section : SectionData) → In section (content_of rows) → In section (sections_of files)
  shown section i =
      let key = In-unmap (section_of rows) (keys_of rows) section i in
      let item = item_there key.0 key.1 in
      let kept = kept_there key.0 item.0 (value_of (slice_cmp nat_cmp) key.0.file files) item.1 refl in
      let items = items_at key.0 rows in
      let own : section_seen key.0.file kept.0.index.texts key.0.test kept.2 ≡ section_of rows key.0 ∷ [] =
      ap (section_seen key.0.file kept.0.index.texts key.0.test) kept.4 ∙ seen_as key.0 kept.0.index.texts items item.0 (file_has_checksums key.0 kept.0 kept.1) item.1 in
      let here : In (section_of rows key.0) (section_seen key.0.file kept.0.index.texts key.0.test kept.2) = subst (In (section_of rows key.0)) (sym own) (inl refl) in
      let of_file : In (section_of rows key.0) (sections_of_file (key.0.file, kept.0)) =
      In-flat (λ (test : List ℕ × TestData). section_seen key.0.file kept.0.index.texts test.0 test.1) kept.0.tests (key.0.test, kept.2) (section_of rows key.0) kept.3 here in
      subst (λ (s : SectionData). In s (sections_of files)) key.2
      (In-flat sections_of_file files (key.0.file, kept.0) (section_of rows key.0) (pair_in names_order key.0.file kept.0 files kept.1) of_file)

  -- ---- the sections of the files are the content of the rows

  pub sections_as : sections_of files ≡ content_of rows
  sections_as =
      one_sorted (on_total (λ (s : SectionData). s.key) keys_order.total) (sections_of files) (content_of rows)
      (state_sorted files state.ascending state.whole)
      (made_sorted key_cmp (section_of rows) (λ (s : SectionData). s.key) (λ key. refl) (keys_of rows) (ascending_sorted keys_order.total (map key_of_row rows)))
      seen_there shown

pub sections_are : (rows : List Row) (files : List (List ℕ × FileData)) → IsStateOf rows files → Agree (checksums_in rows) → sections_of files ≡ content_of rows
sections_are rows files state agree = sections_as rows files state

-- ---- no rows

pub no_rows : IsStateOf [] []
no_rows = record { ascending = tt; points = λ key. refl; texts = λ checksum i. absurd (In-from [] checksum i); whole = tt }

-- What is known of a test and the index of its file, in a state: the file is consistent, its tests are what their items add up
-- to, and each checksum of the file is held, with its text.
use Rattle.covstore.proofs.Words.{◌≡◌, ℕ, Bool, true, false, ◌&&◌, not, eqb, if◌then◌else◌, nat_lt, Option, Some, None, List, [], ◌∷◌, ◌++◌, length, filter, map, refl, sym, ap, ◌∙◌, subst, inl, Contains, slice_cmp, flat_map, nat_cmp, bytes_eq, eqb-true, false≢true, length-map, map-append, none-some, same_Some, bytes_eq-Decides, line_point, line_points, ItemData, LineItem, FuncItem, BranchItem, Row, LineSum, IsIn, Agree, Checksum, checksum_of_row, checksums_in, is_above_at, FileIndexData, put, value_of, FileData, IsIndexOf, IsStateOf, IsConsistentFile, file_with, has_checksum, holders_at, holding, points_in, tests_in, text_in, KeepsCounts, TestData, line_sum, test_of, Key, checksum_said, first_of, items_at, key_of_row, has_key, line_checksum, In-filter, In-flat, In-unflat, any_from_in, in_from_any, In, Contains-from, All-in, In-map, In-unmap, names_order}
use Rattle.std.specs.Option.{is_some}
use Rattle.covstore.proofs.AddsLists.{IsPlaceOf, place_of}
use Rattle.covtable.proofs.ContentsChecksums.{line_checksum_held, line_of_said, own_row}
use Rattle.covstore.proofs.CountsFound.{any_counted, some_value}
use Rattle.covstore.proofs.Puts.{ArePairs-put, pair_in, value_of_pair}
use Rattle.covstore.proofs.StateSections.{points_none, points_there}
use Rattle.covstore.proofs.SumsMembers.{line_has_checksum, line_known}

checksum_with : List ℕ → ℕ → List ℕ → Checksum
checksum_with file line checksum = record { file = file; line = line; checksum = checksum }

-- ---- the checksums of a state agree

no_difference : (x y z : Bool) → (x ≡ true → y ≡ true → z ≡ true) → (x && y && not z) ≡ false
no_difference true true true same = refl
no_difference true true false same = absurd (false≢true (same refl refl))
no_difference true false z same = refl
no_difference false y z same = refl

-- if each checksum is the text of its line, the checksums agree, since a line has one text
pub agree_by_text : (text : List ℕ → ℕ → Option (List ℕ)) (held : List Checksum) → ((c : Checksum) → Contains held c → text c.file c.line ≡ Some c.checksum) → Agree held
agree_by_text text held own a b i j =
    no_difference (bytes_eq a.file b.file) (eqb a.line b.line) (bytes_eq a.checksum b.checksum)
    (λ file line.
    let same_file : a.file ≡ b.file = (bytes_eq-Decides a.file b.file).0 file in
    let same_line : a.line ≡ b.line = eqb-true a.line b.line line in
    (bytes_eq-Decides a.checksum b.checksum).1
    (same_Some a.checksum b.checksum (sym (own a i) ∙ ap (λ (name : List ℕ). text name a.line) same_file ∙ ap (text b.file) same_line ∙ own b j)))

pub state_agrees : (rows : List Row) (files : List (List ℕ × FileData)) → IsStateOf rows files → Agree (checksums_in rows)
state_agrees rows files state = agree_by_text (λ file line. text_in (value_of (slice_cmp nat_cmp) file files) line) (checksums_in rows) (λ c i. state.texts c i)

-- ---- a checksum that an item gives

pub spoken : (items : List ItemData) (line : ℕ) (said : List ℕ) → In said (flat_map (checksum_said line) items) → In line (line_points items)
spoken items line said i =
    let own = In-unflat (checksum_said line) items said i in
    In-flat line_point items own.0 line own.1 (by own.0 own.2)
  where
    at_line : (at : ℕ) (checksum : List ℕ) (b : Bool) → eqb at line ≡ b → In said (if b then checksum ∷ [] else []) → In line (at ∷ [])
    at_line at checksum true e j = inl (eqb-true at line e)
    at_line at checksum false e j = absurd j

    by : (item : ItemData) → In said (checksum_said line item) → In line (line_point item)
    by (LineItem at count (Some checksum)) j = at_line at checksum (eqb at line) refl j
    by (LineItem at count None) j = absurd j
    by (FuncItem name start count) j = absurd j
    by (BranchItem at block branch taken) j = absurd j

some_first : {X : Type 0} (xs : List X) (x : X) → In x xs → is_some (first_of xs) ≡ true
some_first [] x i = absurd i
some_first (y ∷ ys) x i = refl

-- the test has a sum of this line, and the sum has a checksum
abbrev pub HasSum : TestData → ℕ → Type 0
HasSum test line = (sum : LineSum) × (value_of nat_cmp line test.lines ≡ Some sum) × (sum.has_checksum ≡ true)

-- if an item gives the line a checksum, the test of these items has such a sum
pub said_sum : (items : List ItemData) (line : ℕ) (said : List ℕ) → In said (flat_map (checksum_said line) items) → HasSum (test_of items) line
said_sum items line said i = (
  (line_sum items line).1,
  line_known items line (Contains-from (line_points items) line (spoken items line said i)),
  some_first (flat_map (checksum_said line) items) said i,
)

-- ---- how many tests hold a checksum

some_if : {X : Type 0} (b : Bool) (x : X) → is_some (if b then Some x else None) ≡ b
some_if true x = refl
some_if false x = refl

pub held_of : (line : ℕ) (tests : List TestData) (test : TestData) → In test tests → HasSum test line → is_some (holders_at line tests) ≡ true
held_of line tests test i sum =
    let holds = λ (t : TestData). is_above_at has_checksum (value_of nat_cmp line t.lines) in
    let own : holds test ≡ true = ap (is_above_at has_checksum) sum.1 ∙ sum.2 in
    some_if (nat_lt 0 (holding line tests)) (holding line tests) ∙ any_counted holds tests ∙ any_from_in holds tests test i own

pub above_sum : (value : Option LineSum) → is_above_at has_checksum value ≡ true → (sum : LineSum) × (value ≡ Some sum) × (sum.has_checksum ≡ true)
above_sum None e = absurd (false≢true e)
above_sum (Some sum) e = (sum, refl, e)

pub holder_of : (line : ℕ) (tests : List TestData) → is_some (holders_at line tests) ≡ true → (test : TestData) × In test tests × HasSum test line
holder_of line tests e =
    let holds = λ (t : TestData). is_above_at has_checksum (value_of nat_cmp line t.lines) in
    let found = in_from_any holds tests (sym (any_counted holds tests) ∙ sym (some_if (nat_lt 0 (holding line tests)) (holding line tests)) ∙ e) in
    (found.0, found.1, above_sum (value_of nat_cmp line found.0.lines) found.2)

-- ---- the test in the state

module _ {rows : List Row} {files : List (List ℕ × FileData)} {file name : List ℕ} {tests : List (List ℕ × TestData)} {test : TestData} {index : FileIndexData} (is : IsIn rows files file name tests test index) where
  pub its_whole : IsConsistentFile (file_with tests index)
  its_whole = All-in (λ (pair : List ℕ × FileData). IsConsistentFile pair.1) files (file, file_with tests index) is.state.whole (pair_in names_order file (file_with tests index) files is.its_file)

  -- each test of the file is what its items add up to
  pub test_at : (other : List ℕ) (found : TestData) → value_of (slice_cmp nat_cmp) other tests ≡ Some found → found ≡ test_of (items_at (record { file = file; test = other }) rows)
  test_at other found e =
      sym (points_there (file_with tests index) other found e) ∙ ap (λ (kept : Option FileData). points_in kept other) (sym is.its_file) ∙ is.state.points (record { file = file; test = other })

  -- ---- the test among the others

  its_place : IsPlaceOf name test tests (λ other. put (slice_cmp nat_cmp) name other tests)
  its_place = place_of names_order name test tests its_whole.ascending is.its_test

  pub its_front : List TestData
  its_front = map (λ (pair : List ℕ × TestData). pair.1) its_place.front

  pub its_back : List TestData
  its_back = map (λ (pair : List ℕ × TestData). pair.1) its_place.back

  tests_around : (other : TestData) → map (λ (pair : List ℕ × TestData). pair.1) (its_place.front ++ (name, other) ∷ its_place.back) ≡ its_front ++ other ∷ its_back
  unfolding its_front its_back
  tests_around other = map-append (λ (pair : List ℕ × TestData). pair.1) its_place.front ((name, other) ∷ its_place.back)

  tests_before : map (λ (pair : List ℕ × TestData). pair.1) tests ≡ its_front ++ test ∷ its_back
  tests_before = ap (λ (list : List (List ℕ × TestData)). map (λ (pair : List ℕ × TestData). pair.1) list) its_place.place ∙ tests_around test

  tests_after : (other : TestData) → map (λ (pair : List ℕ × TestData). pair.1) (put (slice_cmp nat_cmp) name other tests) ≡ its_front ++ other ∷ its_back
  tests_after other = ap (λ (list : List (List ℕ × TestData)). map (λ (pair : List ℕ × TestData). pair.1) list) (its_place.after other) ∙ tests_around other

  pub its_kept : IsIndexOf (its_front ++ test ∷ its_back) index
  its_kept = subst (λ (list : List TestData). IsIndexOf list index) tests_before its_whole.kept

  pub whole_after : (other : TestData) (more : FileIndexData) → KeepsCounts test other index more → IsConsistentFile (file_with (put (slice_cmp nat_cmp) name other tests) more)
  whole_after other more keeps = record {
    ascending = ArePairs-put names_order name other tests its_whole.ascending;
    kept = subst (λ (all : List TestData). IsIndexOf all more) (sym (tests_after other)) (keeps its_front its_back its_kept);
  }

  pub as_many : length (its_front ++ test ∷ its_back) ≡ length tests
  as_many = ap (λ (all : List TestData). length all) (sym tests_before) ∙ length-map tests (λ (pair : List ℕ × TestData). pair.1)

  -- ---- the checksums of the file

  -- each checksum that the rows give a line of this file is kept as the text of that line
  pub text_kept : (c : Checksum) → In c (checksums_in rows) → file ≡ c.file → value_of nat_cmp c.line index.texts ≡ Some c.checksum
  text_kept c i same =
      ap (λ (found : Option FileData). text_in found c.line) (sym is.its_file) ∙ ap (λ (of : List ℕ). text_in (value_of (slice_cmp nat_cmp) of files) c.line) same
      ∙ is.state.texts c (Contains-from (checksums_in rows) c i)

  sum_there : (other : List ℕ) (line : ℕ) (found : Option TestData) → value_of (slice_cmp nat_cmp) other tests ≡ found → HasSum (test_of (items_at (record { file = file; test = other }) rows)) line
      → is_some (value_of nat_cmp line index.holders) ≡ true
  sum_there other line None e sum =
      let none : test_of [] ≡ test_of (items_at (record { file = file; test = other }) rows) =
      sym (points_none (file_with tests index) other e) ∙ ap (λ (kept : Option FileData). points_in kept other) (sym is.its_file) ∙ is.state.points (record { file = file; test = other }) in
      absurd (none-some sum.0 (ap (λ (t : TestData). value_of nat_cmp line t.lines) none ∙ sum.1))
  sum_there other line (Some found) e sum =
      let own : HasSum found line = subst (λ (t : TestData). HasSum t line) (sym (test_at other found e)) sum in
      ap is_some (its_whole.kept.holders line)
      ∙ held_of line (tests_in (file_with tests index)) found (In-map (λ (pair : List ℕ × TestData). pair.1) tests (other, found) (pair_in names_order other found tests e)) own

  -- for each checksum of the rows in this file, some test holds a checksum of its line
  pub checksum_held : (c : Checksum) → In c (checksums_in rows) → file ≡ c.file → is_some (value_of nat_cmp c.line index.holders) ≡ true
  checksum_held c i same =
      let row = In-unflat checksum_of_row rows c i in
      let says = line_of_said row.0.file c row.0.item row.2 in
      let key = key_of_row row.0 in
      let item : In row.0.item (items_at key rows) = In-map (λ (r : Row). r.item) (filter (has_key key) rows) row.0 (In-filter (has_key key) rows row.0 row.1 (own_row row.0)) in
      let sum : HasSum (test_of (items_at key rows)) c.line = said_sum (items_at key rows) c.line c.checksum (In-flat (checksum_said c.line) (items_at key rows) row.0.item c.checksum item says.1) in
      sum_there row.0.test c.line (value_of (slice_cmp nat_cmp) row.0.test tests) refl
      (subst (λ (of : List ℕ). HasSum (test_of (items_at (record { file = of; test = row.0.test }) rows)) c.line) (says.0 ∙ sym same) sum)

  is_text : (line : ℕ) (said text : List ℕ) → In (checksum_with file line said) (checksums_in rows) → value_of nat_cmp line index.texts ≡ Some text → In (checksum_with file line text) (checksums_in rows)
  unfolding checksum_with
  is_text line said text there kept =
      let own : value_of nat_cmp line index.texts ≡ Some said = text_kept (checksum_with file line said) there refl in
      subst (λ (t : List ℕ). In (checksum_with file line t) (checksums_in rows)) (same_Some said text (sym own ∙ kept)) there

  -- conversely, if a test holds a checksum of a line, the text kept for the line is a checksum of the rows
  pub held_text : (line : ℕ) (text : List ℕ) → is_some (value_of nat_cmp line index.holders) ≡ true → value_of nat_cmp line index.texts ≡ Some text
      → In (record { file = file; line = line; checksum = text }) (checksums_in rows)
  unfolding checksum_with
  held_text line text held kept =
      let holder = holder_of line (tests_in (file_with tests index)) (sym (ap is_some (its_whole.kept.holders line)) ∙ held) in
      let pair = In-unmap (λ (pair : List ℕ × TestData). pair.1) tests holder.0 holder.1 in
      let key : Key = record { file = file; test = pair.0.0 } in
      let sums : holder.0 ≡ test_of (items_at key rows) =
      sym pair.2 ∙ test_at pair.0.0 pair.0.1 (value_of_pair names_order pair.0.0 pair.0.1 tests its_whole.ascending pair.1) in
      let sum = holder.2 in
      let own : value_of nat_cmp line (test_of (items_at key rows)).lines ≡ Some sum.0 = ap (λ (t : TestData). value_of nat_cmp line t.lines) (sym sums) ∙ sum.1 in
      let has : sum.0.has_checksum ≡ is_some (line_checksum line (items_at key rows)) = line_has_checksum (items_at key rows) line sum.0 own in
      let said = some_value (line_checksum line (items_at key rows)) (sym has ∙ sum.2) in
      is_text line said.0 text (line_checksum_held rows key line said.0 said.1) kept

-- The rows of a test are copied under a new name, file by file. Copies don't change what is still to be copied. With all of them,
-- the state is that of the rows and the moved rows.
use Rattle.covstore.proofs.Words.{◌≡◌, ℕ, Bool, true, false, cond, not, ◌&&◌, Option, Some, None, List, [], ◌∷◌, ◌++◌, map, filter, refl, sym, ap, ◌∙◌, subst, append_assoc, inl, ⊎_elim, slice_cmp, flat_map, nat_cmp, bytes_eq, false≢true, flat_map-append, bytes_eq-Decides, ItemData, Row, Checksum, checksum_of_row, checksums_in, ArePairs, value_of, Copies, copied_rows, key_of, names_with, FileData, IsStateOf, has_no_points, is_empty_list, has_points_of, points_at, points_in, TestData, test_of, Key, has_key, items_at, In-flat, In-unflat, In-unfilter, Contains-from, In, In-from, In-joined, In-parts, names_order}
use Rattle.std.proofs.lemmas.List.{append-nil}
use Rattle.std.proofs.lemmas.Map.Text.{is_eq-slice_cmp}
use Rattle.covtable.specs.Renamed.{moved_rows, renamed_row}
use Rattle.covstore.specs.StoreSection.{rows_of_items}
use Rattle.covtable.specs.Without.{is_of_test}
use Rattle.covtable.proofs.ContentsSections.{both, items_at-append}
use Rattle.covstore.proofs.Puts.{value_of_before}
use Rattle.covtable.proofs.RenamedTables.{agree_renamed, items_picked}
use Rattle.covstore.proofs.StateSeen.{HasNone, some_points_of}
use Rattle.covtable.proofs.WithoutContent.{passed_over, picked}

-- ---- lists and conditions

never : (b : Bool) (items : List ItemData) → cond (b && false) items [] ≡ []
never true items = refl
never false items = refl

not_both : (b : Bool) → (b && false) ≡ false
not_both true = refl
not_both false = refl

-- picking by two conditions, one after the other
pub picked_both : {X : Type 0} (p q : X → Bool) (xs : List X) → filter q (filter p xs) ≡ filter (λ x. p x && q x) xs
picked_both p q [] = refl
picked_both {X} p q (x ∷ xs) = by (p x) (picked_both p q xs)
  where
    by : (b : Bool) → filter q (filter p xs) ≡ filter (λ y. p y && q y) xs
        → filter q (cond b (x ∷ filter p xs) (filter p xs)) ≡ cond (b && q x) (x ∷ filter (λ y. p y && q y) xs) (filter (λ y. p y && q y) xs)
    by true rest = ap (λ (ys : List X). cond (q x) (x ∷ ys) ys) rest
    by false rest = rest

-- conditions that agree pick the same
pub same_picked : {X : Type 0} (p q : X → Bool) → ((x : X) → p x ≡ q x) → (xs : List X) → filter p xs ≡ filter q xs
same_picked p q same xs = λ i. filter (λ x. same x i) xs

none_picked : {X : Type 0} (xs : List X) → filter (λ x. false) xs ≡ []
none_picked [] = refl
none_picked (x ∷ xs) = none_picked xs

-- a condition that holds of all rows made of items picks all of the items, and one that holds of none picks none
kept_all : (p : Row → Bool) (f : ItemData → Row) (b : Bool) → ((item : ItemData) → p (f item) ≡ b) → ((item : ItemData) → (f item).item ≡ item) → (items : List ItemData)
    → map (λ row. row.item) (filter p (map f items)) ≡ cond b items []
kept_all p f true same its [] = refl
kept_all p f true same its (item ∷ items) =
    ap (map (λ (r : Row). r.item)) (picked p (f item) (map f items) (same item))
    ∙ ap (λ (i : ItemData). i ∷ map (λ (r : Row). r.item) (filter p (map f items))) (its item)
    ∙ ap (λ (is : List ItemData). item ∷ is) (kept_all p f true same its items)
kept_all p f false same its [] = refl
kept_all p f false same its (item ∷ items) = ap (map (λ (r : Row). r.item)) (passed_over p (f item) (map f items) (same item)) ∙ kept_all p f false same its items

-- the items of a key among the rows of items of one file and test
pub items_of_rows : (key : Key) (name test : List ℕ) (items : List ItemData) → items_at key (rows_of_items name test items) ≡ cond (bytes_eq name key.file && bytes_eq test key.test) items []
items_of_rows key name test items =
    kept_all (has_key key) (λ item. record { test = test; file = name; item = item }) (bytes_eq name key.file && bytes_eq test key.test) (λ item. refl) (λ item. refl) items

-- the copied rows of files
abbrev pub copies_of : List ℕ → List ℕ → List Row → List (List ℕ) → List Row
copies_of old new rows names = flat_map (λ name. copied_rows name old new rows) names

-- ---- what is still to be copied

module _ (old new : List ℕ) (apart : old ≡ new → ⊥) where
  other_name : (b : Bool) → bytes_eq new old ≡ b → b ≡ false
  other_name true e = absurd (apart (sym ((bytes_eq-Decides new old).0 e)))
  other_name false e = refl

  none_of_old : (file : List ℕ) (rows : List Row) (names : List (List ℕ)) → items_at (key_of file old) (copies_of old new rows names) ≡ []
  none_of_old file rows [] = refl
  none_of_old file rows (name ∷ names) =
      let own = items_at (key_of name old) rows in
      items_at-append (key_of file old) (copied_rows name old new rows) (copies_of old new rows names)
      ∙ ap (λ (is : List ItemData). is ++ items_at (key_of file old) (copies_of old new rows names))
      (items_of_rows (key_of file old) name new own ∙ ap (λ (b : Bool). cond (bytes_eq name file && b) own []) (other_name (bytes_eq new old) refl) ∙ never (bytes_eq name file) own)
      ∙ none_of_old file rows names

  -- the items of the old test stay as they were
  pub later_items : (file : List ℕ) (rows : List Row) (some : List (List ℕ)) → items_at (key_of file old) (rows ++ copies_of old new rows some) ≡ items_at (key_of file old) rows
  later_items file rows some =
      items_at-append (key_of file old) rows (copies_of old new rows some)
      ∙ ap (λ (is : List ItemData). items_at (key_of file old) rows ++ is) (none_of_old file rows some) ∙ append-nil (items_at (key_of file old) rows)

  -- the rows to copy in a file are the same after other files are copied
  pub later_copy : (file : List ℕ) (rows : List Row) (some : List (List ℕ)) → copied_rows file old new (rows ++ copies_of old new rows some) ≡ copied_rows file old new rows
  later_copy file rows some = ap (rows_of_items file new) (later_items file rows some)

  -- the points to copy in a file are the same after other files are copied
  pub points_to_copy : (file : List ℕ) (rows : List Row) (some : List (List ℕ)) (staged : List (List ℕ × FileData)) → IsStateOf (rows ++ copies_of old new rows some) staged
      → points_at (key_of file old) staged ≡ test_of (items_at (key_of file old) rows)
  points_to_copy file rows some staged state = state.points (key_of file old) ∙ ap test_of (later_items file rows some)

  -- the staged points of the old test are the committed ones
  pub points_still : (file : List ℕ) (rows : List Row) (some : List (List ℕ)) (committed staged : List (List ℕ × FileData)) → IsStateOf rows committed → IsStateOf (rows ++ copies_of old new rows some) staged
      → points_at (key_of file old) staged ≡ points_at (key_of file old) committed
  points_still file rows some committed staged before state = points_to_copy file rows some staged state ∙ sym (before.points (key_of file old))

  -- one more file is copied
  pub copied_next : (file : List ℕ) (rows : List Row) (some : List (List ℕ)) (before after : List (List ℕ × FileData)) → IsStateOf (rows ++ copies_of old new rows some) before
      → Copies file old new before after → IsStateOf (rows ++ copies_of old new rows (some ++ file ∷ [])) after
  copied_next file rows some before after state copies =
      let now : (rows ++ copies_of old new rows some) ++ copied_rows file old new (rows ++ copies_of old new rows some) ≡ rows ++ copies_of old new rows (some ++ file ∷ []) =
      ap (λ (rs : List Row). (rows ++ copies_of old new rows some) ++ rs) (later_copy file rows some)
      ∙ append_assoc rows (copies_of old new rows some) (copied_rows file old new rows)
      ∙ ap (λ (rs : List Row). rows ++ rs)
      (ap (λ (rs : List Row). copies_of old new rows some ++ rs) (sym (append-nil (copied_rows file old new rows))) ∙ sym (flat_map-append (λ name. copied_rows name old new rows) some (file ∷ []))) in
      subst (λ (rs : List Row). IsStateOf rs after) now (copies (rows ++ copies_of old new rows some) state)

-- ---- the moved rows of a key

moved_test : (o f : Bool) (new test name : List ℕ) → bytes_eq new name ≡ true → (o && (f && bytes_eq (cond o new test) name)) ≡ (f && o)
moved_test true f new test name e = ap (λ (b : Bool). f && b) e
moved_test false f new test name e = sym (not_both f)

other_test : (o f : Bool) (new test name : List ℕ) → bytes_eq new name ≡ false → (o && (f && bytes_eq (cond o new test) name)) ≡ false
other_test true f new test name e = ap (λ (b : Bool). f && b) e ∙ not_both f
other_test false f new test name e = refl

module _ (old new : List ℕ) where
  -- for the new name, the moved rows have the old test's items, in their order. For any other name, they have none
  pub moved_items : (key : Key) (rows : List Row) → items_at key (moved_rows old new rows) ≡ cond (bytes_eq new key.test) (items_at (key_of key.file old) rows) []
  moved_items key rows =
      items_picked (has_key key) (λ row. has_key key (renamed_row old new row)) (renamed_row old new) (λ row. refl) (λ row. refl) (filter (is_of_test old) rows)
      ∙ ap (map (λ (row : Row). row.item)) (picked_both (is_of_test old) (λ row. has_key key (renamed_row old new row)) rows)
      ∙ by (bytes_eq new key.test) refl
    where
      by : (b : Bool) → bytes_eq new key.test ≡ b
          → map (λ (row : Row). row.item) (filter (λ row. is_of_test old row && has_key key (renamed_row old new row)) rows) ≡ cond b (items_at (key_of key.file old) rows) []
      by true e =
          ap (map (λ (row : Row). row.item))
          (same_picked (λ row. is_of_test old row && has_key key (renamed_row old new row)) (has_key (key_of key.file old))
          (λ row. moved_test (bytes_eq row.test old) (bytes_eq row.file key.file) new row.test key.test e) rows)
      by false e =
          ap (map (λ (row : Row). row.item))
          (same_picked (λ row. is_of_test old row && has_key key (renamed_row old new row)) (λ row. false)
          (λ row. other_test (bytes_eq row.test old) (bytes_eq row.file key.file) new row.test key.test e) rows
          ∙ none_picked rows)

  -- the moved rows add no new checksums
  pub held_in_moved : (rows : List Row) (checksum : Checksum) → In checksum (checksums_in (rows ++ moved_rows old new rows)) → In checksum (checksums_in rows)
  held_in_moved rows checksum i =
      ⊎_elim {C = In checksum (checksums_in rows)}
      (λ (before : In checksum (checksums_in rows)). before)
      (λ (now : In checksum (checksums_in (moved_rows old new rows))).
      let row = In-unflat checksum_of_row (filter (is_of_test old) rows) checksum (subst (In checksum) (agree_renamed old new (filter (is_of_test old) rows)) now) in
      In-flat checksum_of_row rows row.0 checksum (In-unfilter (is_of_test old) rows row.0 row.1).0 row.2)
      (In-parts (checksums_in rows) (checksums_in (moved_rows old new rows)) checksum (subst (In checksum) (flat_map-append checksum_of_row rows (moved_rows old new rows)) i))

-- ---- the copied rows of a key

and_turned : (a b : Bool) → (a && b) ≡ (b && a)
and_turned true b = by b
  where
    by : (b : Bool) → b ≡ (b && true)
    by true = refl
    by false = refl
and_turned false b = sym (not_both b)

-- the items that the first file gives a key, followed by those that the other files give it. If the first file is the key's, no
-- other one is
joined_at : (same has new rest : Bool) (own items others : List ItemData) → others ≡ cond (new && rest) items [] → (same ≡ true → own ≡ items) → (same ≡ true → rest ≡ false)
    → cond (has && (same && new)) own [] ++ others ≡ cond (new && cond same has rest) items []
joined_at true has new rest own items others e is none =
    ap (λ (more : List ItemData). cond (has && new) own [] ++ more) (e ∙ ap (λ (b : Bool). cond (new && b) items []) (none refl) ∙ never new items)
    ∙ append-nil (cond (has && new) own []) ∙ ap (λ (all : List ItemData). cond (has && new) all []) (is refl) ∙ ap (λ (b : Bool). cond b items []) (and_turned has new)
joined_at false has new rest own items others e is none = ap (λ (all : List ItemData). all ++ others) (never has own) ∙ e

none_is : {X : Type 0} (xs : List X) → is_empty_list xs ≡ true → xs ≡ []
none_is [] e = refl
none_is (x ∷ xs) e = absurd (false≢true e)

has_none_of : (points : TestData) → has_no_points points ≡ true → HasNone points
has_none_of points e =
    let last = both (is_empty_list points.lines && is_empty_list points.functions) (is_empty_list points.branches) e in
    let first = both (is_empty_list points.lines) (is_empty_list points.functions) last.0 in
    record { lines = none_is points.lines first.0; functions = none_is points.functions first.1; branches = none_is points.branches last.1 }

-- if items add up to no points, there are no items
pub no_items : (items : List ItemData) → not (has_no_points (test_of items)) ≡ false → items ≡ []
no_items [] e = refl
no_items (item ∷ items) e = absurd (some_points_of (item ∷ items) item (inl refl) (has_none_of (test_of (item ∷ items)) (by (has_no_points (test_of (item ∷ items))) e)))
  where
    by : (b : Bool) → not b ≡ false → b ≡ true
    by true e = refl
    by false e = absurd (false≢true (sym e))

all_or_none : (new has : Bool) (items : List ItemData) → (has ≡ false → items ≡ []) → cond (new && has) items [] ≡ cond new items []
all_or_none true true items none = refl
all_or_none true false items none = sym (none refl)
all_or_none false has items none = refl

module _ (old new : List ℕ) (rows : List Row) where
  abbrev has_found : Option FileData → Bool
  has_found found = not (has_no_points (points_in found old))

  has_at : (same : Bool) (file : FileData) (found : Option FileData) → has_found (cond same (Some file) found) ≡ cond same (has_points_of old file) (has_found found)
  has_at true file found = refl
  has_at false file found = refl

  one_copied : (key : Key) (pair : List ℕ × FileData) (files : List (List ℕ × FileData)) (has : Bool) → has_points_of old pair.1 ≡ has
      → items_at key (copies_of old new rows (names_with old (pair ∷ files)))
      ≡ cond (has && (bytes_eq pair.0 key.file && bytes_eq new key.test)) (items_at (key_of pair.0 old) rows) [] ++ items_at key (copies_of old new rows (names_with old files))
  one_copied key pair files true e =
      ap (λ (ps : List (List ℕ × FileData)). items_at key (copies_of old new rows (map (λ p. p.0) ps))) (picked (λ (p : List ℕ × FileData). has_points_of old p.1) pair files e)
      ∙ items_at-append key (copied_rows pair.0 old new rows) (copies_of old new rows (names_with old files))
      ∙ ap (λ (is : List ItemData). is ++ items_at key (copies_of old new rows (names_with old files))) (items_of_rows key pair.0 new (items_at (key_of pair.0 old) rows))
  one_copied key pair files false e =
      ap (λ (ps : List (List ℕ × FileData)). items_at key (copies_of old new rows (map (λ p. p.0) ps))) (passed_over (λ (p : List ℕ × FileData). has_points_of old p.1) pair files e)

  -- for the new name, the copied rows have the old test's items, if the file has points of the old test
  pub copied_items : (key : Key) (files : List (List ℕ × FileData)) → ArePairs (slice_cmp nat_cmp) files
      → items_at key (copies_of old new rows (names_with old files))
      ≡ cond (bytes_eq new key.test && has_found (value_of (slice_cmp nat_cmp) key.file files)) (items_at (key_of key.file old) rows) []
  copied_items key [] sorted = sym (never (bytes_eq new key.test) (items_at (key_of key.file old) rows))
  copied_items key (pair ∷ files) sorted =
      let found = value_of (slice_cmp nat_cmp) key.file files in
      let same = bytes_eq pair.0 key.file in
      one_copied key pair files (has_points_of old pair.1) refl
      ∙ joined_at same (has_points_of old pair.1) (bytes_eq new key.test) (has_found found) (items_at (key_of pair.0 old) rows) (items_at (key_of key.file old) rows)
      (items_at key (copies_of old new rows (names_with old files))) (copied_items key files sorted.1)
      (λ e. ap (λ (name : List ℕ). items_at (key_of name old) rows) ((bytes_eq-Decides pair.0 key.file).0 e))
      (λ e. ap has_found (subst (λ (name : List ℕ). value_of (slice_cmp nat_cmp) name files ≡ None) ((bytes_eq-Decides pair.0 key.file).0 e) (value_of_before names_order pair.0 files sorted.0)))
      ∙ ap (λ (b : Bool). cond (bytes_eq new key.test && b) (items_at (key_of key.file old) rows) [])
      (sym (has_at same pair.1 found) ∙ ap (λ (b : Bool). has_found (cond b (Some pair.1) found)) (sym (is_eq-slice_cmp pair.0 key.file)))

  -- after all files with points of the old test are copied, the state is that of the rows and the moved rows
  pub all_copied : (committed staged : List (List ℕ × FileData)) → IsStateOf rows committed → IsStateOf (rows ++ copies_of old new rows (names_with old committed)) staged
      → IsStateOf (rows ++ moved_rows old new rows) staged
  all_copied committed staged before state = record {
    ascending = state.ascending;
    points = λ key. state.points key ∙ ap test_of (
        items_at-append key rows (copies_of old new rows (names_with old committed))
        ∙ ap (λ (is : List ItemData). items_at key rows ++ is) (as_moved key)
        ∙ sym (items_at-append key rows (moved_rows old new rows)));
    texts = λ sum i. state.texts sum (Contains-from (checksums_in (rows ++ copies_of old new rows (names_with old committed))) sum (
        subst (In sum) (sym (flat_map-append checksum_of_row rows (copies_of old new rows (names_with old committed))))
        (In-joined (checksums_in rows) (checksums_in (copies_of old new rows (names_with old committed))) sum
        (inl (held_in_moved old new rows sum (In-from (checksums_in (rows ++ moved_rows old new rows)) sum i))))));
    whole = state.whole;
  }
    where
      as_moved : (key : Key) → items_at key (copies_of old new rows (names_with old committed)) ≡ items_at key (moved_rows old new rows)
      as_moved key =
          let items = items_at (key_of key.file old) rows in
          copied_items key committed before.ascending
          ∙ all_or_none (bytes_eq new key.test) (has_found (value_of (slice_cmp nat_cmp) key.file committed)) items
          (λ e. no_items items (sym (ap (λ (points : TestData). not (has_no_points points)) (before.points (key_of key.file old))) ∙ e))
          ∙ sym (moved_items old new key rows)

-- At most as many rows of a test are copied under a new name as there are rows.
use Rattle.covstore.proofs.Words.{◌≡◌, ℕ, ◌+◌, ◌*◌, ◌≤◌, suc, Bool, true, false, cond, not, ◌&&◌, List, [], ◌∷◌, ◌++◌, length, map, filter, refl, sym, ap, ◌∙◌, subst, arith, slice_cmp, Less, AllByRecursion, nat_cmp, bytes_eq, tied_itself, length-append, length-map, flat_map-append, bytes_eq-Decides, ItemData, Row, ArePairs, copied_rows, key_of, names_with, FileData, has_points_of, has_key, items_at, names_order}
use Rattle.covstore.specs.StoreSection.{rows_of_items}
use Rattle.covstore.proofs.RenamedTablesCopies.{copies_of, picked_both, same_picked}

-- ---- different names

abbrev pub AreApart : List (List ℕ) → Type 0
AreApart [] = Unit {0}
AreApart (name ∷ names) = AllByRecursion (λ other. name ≡ other → ⊥) names × AreApart names

apart_from_less : (name other : List ℕ) → slice_cmp nat_cmp name other ≡ Less → name ≡ other → ⊥
apart_from_less name other less is =
    let tied = tied_itself names_order.total name in
    let own : slice_cmp nat_cmp name name ≡ Less = subst (λ (n : List ℕ). slice_cmp nat_cmp name n ≡ Less) (sym is) less in
    cc

module _ (test : List ℕ) where
  first_apart : (name : List ℕ) (files : List (List ℕ × FileData)) → AllByRecursion (λ next. slice_cmp nat_cmp name next.0 ≡ Less) files
      → AllByRecursion (λ other. name ≡ other → ⊥) (names_with test files)
  first_apart name [] all = tt
  first_apart name (pair ∷ files) all = by (has_points_of test pair.1) (first_apart name files all.1)
    where
      by : (has : Bool) → AllByRecursion (λ other. name ≡ other → ⊥) (names_with test files)
          → AllByRecursion (λ other. name ≡ other → ⊥) (map (λ (p : List ℕ × FileData). p.0) (cond has (pair ∷ filter (λ p. has_points_of test p.1) files) (filter (λ p. has_points_of test p.1) files)))
      by true rest = (apart_from_less name pair.0 all.0, rest)
      by false rest = rest

  -- the names of a state's files are different
  pub names_apart : (files : List (List ℕ × FileData)) → ArePairs (slice_cmp nat_cmp) files → AreApart (names_with test files)
  names_apart [] sorted = tt
  names_apart (pair ∷ files) sorted = by (has_points_of test pair.1) (names_apart files sorted.1)
    where
      by : (has : Bool) → AreApart (names_with test files)
          → AreApart (map (λ (p : List ℕ × FileData). p.0) (cond has (pair ∷ filter (λ p. has_points_of test p.1) files) (filter (λ p. has_points_of test p.1) files)))
      by true rest = (first_apart pair.0 files sorted.0, rest)
      by false rest = rest

-- ---- rows of other files

still_asked : (a b c : Bool) → (b ≡ true → a ≡ false) → (not a && (b && c)) ≡ (b && c)
still_asked a true c other = ap (λ (x : Bool). not x && c) (other refl)
still_asked true false c other = refl
still_asked false false c other = refl

module _ (old new : List ℕ) where
  abbrev rows_of_others : List ℕ → List Row → List Row
  rows_of_others file rows = filter (λ row. not (bytes_eq row.file file)) rows

  other_items : (file other : List ℕ) (rows : List Row) → (file ≡ other → ⊥) → items_at (key_of other old) (rows_of_others file rows) ≡ items_at (key_of other old) rows
  other_items file other rows apart =
      ap (map (λ (row : Row). row.item))
      (picked_both (λ row. not (bytes_eq row.file file)) (has_key (key_of other old)) rows
      ∙ same_picked (λ row. not (bytes_eq row.file file) && has_key (key_of other old) row) (has_key (key_of other old))
      (λ row. still_asked (bytes_eq row.file file) (bytes_eq row.file other) (bytes_eq row.test old) (λ e. by row ((bytes_eq-Decides row.file other).0 e) (bytes_eq row.file file) refl)) rows)
    where
      by : (row : Row) → row.file ≡ other → (b : Bool) → bytes_eq row.file file ≡ b → b ≡ false
      by row is true e = absurd (apart (sym ((bytes_eq-Decides row.file file).0 e) ∙ is))
      by row is false e = refl

  other_copies : (file : List ℕ) (rows : List Row) (names : List (List ℕ)) → AllByRecursion (λ other. file ≡ other → ⊥) names → copies_of old new (rows_of_others file rows) names ≡ copies_of old new rows names
  other_copies file rows [] all = refl
  other_copies file rows (name ∷ names) all =
      ap (λ (items : List ItemData). rows_of_items name new items ++ copies_of old new (rows_of_others file rows) names) (other_items file name rows all.0)
      ∙ ap (λ (rs : List Row). copied_rows name old new rows ++ rs) (other_copies file rows names all.1)

  few_of_two : (file : List ℕ) (rows : List Row) → length (items_at (key_of file old) rows) + length (rows_of_others file rows) ≤ length rows
  few_of_two file [] = omega arith
  few_of_two file (row ∷ rows) = by (bytes_eq row.file file) (bytes_eq row.test old) (few_of_two file rows)
    where
      by : (a c : Bool) → length (items_at (key_of file old) rows) + length (rows_of_others file rows) ≤ length rows
          → length (map (λ (r : Row). r.item) (cond (a && c) (row ∷ filter (has_key (key_of file old)) rows) (filter (has_key (key_of file old)) rows)))
          + length (cond (not a) (row ∷ rows_of_others file rows) (rows_of_others file rows))
          ≤ suc (length rows)
      by true true rest = omega (arith, rest)
      by true false rest = omega (arith, rest)
      by false c rest = omega (arith, rest)

  few_copied : (file : List ℕ) (rows : List Row) → length (copied_rows file old new rows) ≡ length (items_at (key_of file old) rows)
  few_copied file rows = length-map (items_at (key_of file old) rows) (λ item. record { test = new; file = file; item = item })

  -- for files with different names, at most as many rows are copied as there are rows
  pub few_copies : (names : List (List ℕ)) → AreApart names → (rows : List Row) → length (copies_of old new rows names) ≤ length rows
  few_copies [] apart rows = omega arith
  few_copies (name ∷ names) apart rows =
      let others : length (copies_of old new rows names) ≤ length (rows_of_others name rows) =
      subst (λ (rs : List Row). length rs ≤ length (rows_of_others name rows)) (other_copies name rows names apart.0) (few_copies names apart.1 (rows_of_others name rows)) in
      omega (arith, others, few_of_two name rows, few_copied name rows, length-append (copied_rows name old new rows) (copies_of old new rows names))

  -- for all files with points of the test, at most as many rows are copied as there are rows
  pub copied_all_few : (rows : List Row) (files : List (List ℕ × FileData)) → ArePairs (slice_cmp nat_cmp) files → length (copies_of old new rows (names_with old files)) ≤ length rows
  copied_all_few rows files sorted = few_copies (names_with old files) (names_apart old files sorted) rows

  -- the rows, the rows copied so far, and those of one more file together are at most twice as many as the rows
  pub copied_few : (rows : List Row) (files : List (List ℕ × FileData)) → ArePairs (slice_cmp nat_cmp) files → (some : List (List ℕ)) (file : List ℕ) (others : List (List ℕ))
      → names_with old files ≡ some ++ file ∷ others → length rows + length (copies_of old new rows some) + length (items_at (key_of file old) rows) ≤ 2 * length rows
  copied_few rows files sorted some file others parts =
      let whole : length (copies_of old new rows (some ++ file ∷ others)) ≤ length rows =
      subst (λ (names : List (List ℕ)). length (copies_of old new rows names) ≤ length rows) parts (copied_all_few rows files sorted) in
      let joined : length (copies_of old new rows (some ++ file ∷ others)) ≡ length (copies_of old new rows some ++ (copied_rows file old new rows ++ copies_of old new rows others)) =
      ap (λ (rs : List Row). length rs) (flat_map-append (λ name. copied_rows name old new rows) some (file ∷ others)) in
      omega (
        arith,
        whole,
        joined,
        few_copied file rows,
        length-append (copies_of old new rows some) (copied_rows file old new rows ++ copies_of old new rows others),
        length-append (copied_rows file old new rows) (copies_of old new rows others),
      )

  -- the same, with the rows and the rows copied so far as one list
  pub copied_room : (rows : List Row) (files : List (List ℕ × FileData)) → ArePairs (slice_cmp nat_cmp) files → (some : List (List ℕ)) (file : List ℕ) (others : List (List ℕ))
      → names_with old files ≡ some ++ file ∷ others → length (rows ++ copies_of old new rows some) + length (items_at (key_of file old) rows) ≤ 2 * length rows
  copied_room rows files sorted some file others parts = omega (arith, copied_few rows files sorted some file others parts, length-append rows (copies_of old new rows some))

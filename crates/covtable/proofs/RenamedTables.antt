-- A table after a test is renamed: its rows, its checksums and its totals.
use Rattle.std.proofs.Common.{◌≡◌, ℕ, ◌≤◌, ◌||◌, Bool, true, false, cond, List, [], ◌∷◌, ◌++◌, length, map, filter, refl, sym, ap, ◌∙◌, subst, arith}
use Rattle.std.specs.Cmp.Lexicographic.{slice_cmp}
use Rattle.std.specs.List.{AllByRecursion, list_any, sum_by}
use Rattle.std.specs.Ordering.{nat_cmp}
use Rattle.std.specs.Str.{bytes_eq}
use Rattle.std.proofs.lemmas.Bool.{false≢true}
use Rattle.std.proofs.lemmas.List.{length-map, map-append}
use Rattle.std.proofs.lemmas.Slice.Eq.{bytes_eq-Decides}
use Rattle.covdata.specs.Lawful.{max_items}
use Rattle.covdata.specs.Points.{line_point, func_point, branch_point}
use Rattle.covdata.specs.Row.{ItemData, Row}
use Rattle.covtable.specs.Ascending.{ascending}
use Rattle.covtable.specs.Clash.{Agree, Checksum, checksum_of_row, checksums_in}
use Rattle.covtable.specs.Content.{content_at, content_of}
use Rattle.covtable.specs.Renamed.{renamed, renamed_row}
use Rattle.covtable.specs.Table.{Table, all_rows}
use Rattle.covtable.specs.Totals.{totals_of}
use Rattle.covtable.specs.TotalsSteps.{files_of, found_in, has_file, hit_in, hits_branch, hits_function, hits_line, items_of_file, totals_over}
use Rattle.covtable.specs.Value.{Key, branch_cmp, key_of_row, keys_of}
use Rattle.covtable.specs.Without.{is_of_test, sections_of_test}
use Rattle.covtable.proofs.Ascend.{In-to_ascending}
use Rattle.covtable.proofs.ContentsLists.{In-filter, in_from_any}
use Rattle.covtable.proofs.Members.{In, In-map}
use Rattle.covtable.proofs.Orders.{keys_order}
use Rattle.covtable.proofs.ContentsKinds.{map_of_map}
use Rattle.covtable.proofs.TotalsKinds.{same_totals, totals_of_rows}

row_with : List ℕ → List ℕ → ItemData → Row
row_with test file item = record { test = test; file = file; item = item }

-- ---- one row

same_name : (b : Bool) (test name : List ℕ) → (b ≡ true → name ≡ test) → cond b name test ≡ test
same_name true test name is = is refl
same_name false test name is = refl

-- a row stays, if its test isn't the old one, or has the new name already
pub row_stays : (old new : List ℕ) (row : Row) → (bytes_eq row.test old ≡ true → new ≡ row.test) → renamed_row old new row ≡ row
unfolding row_with
row_stays old new row is = ap (λ (test : List ℕ). row_with test row.file row.item) (same_name (bytes_eq row.test old) row.test new is)

pub rows_stay : (old new : List ℕ) (rows : List Row) → AllByRecursion (λ row. renamed_row old new row ≡ row) rows → map (renamed_row old new) rows ≡ rows
rows_stay old new [] all = refl
rows_stay old new (row ∷ rows) all = ap (λ (r : Row). r ∷ map (renamed_row old new) rows) all.0 ∙ ap (λ (rs : List Row). row ∷ rs) (rows_stay old new rows all.1)

-- ---- rows

-- renaming a test keeps the checksums of the rows
pub agree_renamed : (old new : List ℕ) (rows : List Row) → checksums_in (map (renamed_row old new) rows) ≡ checksums_in rows
agree_renamed old new [] = refl
agree_renamed old new (row ∷ rows) = ap (λ (cs : List Checksum). checksum_of_row row ++ cs) (agree_renamed old new rows)

-- the rows of a table are renamed one by one
pub rows_renamed : (old new : List ℕ) (table : Table) → all_rows (renamed old new table) ≡ map (renamed_row old new) (all_rows table)
rows_renamed old new [] = refl
rows_renamed old new (rows ∷ table) = ap (λ (rs : List Row). map (renamed_row old new) rows ++ rs) (rows_renamed old new table) ∙ sym (map-append (renamed_row old new) rows (all_rows table))

-- if checksums agree, they still do after a test is renamed
pub agree_in_renamed : (old new : List ℕ) (table : Table) → Agree (checksums_in (all_rows table)) → Agree (checksums_in (all_rows (renamed old new table)))
agree_in_renamed old new table agree = subst Agree (sym (ap checksums_in (rows_renamed old new table) ∙ agree_renamed old new (all_rows table))) agree

-- each member of a table has as many rows after a rename as before, so still at most `max_items`
pub small_renamed : (old new : List ℕ) (table : Table) → AllByRecursion (λ rows. length rows ≤ max_items) table → AllByRecursion (λ rows. length rows ≤ max_items) (renamed old new table)
small_renamed old new [] all = tt
small_renamed old new (rows ∷ table) all = (omega (arith, all.0, length-map rows (renamed_row old new)), small_renamed old new table all.1)

-- ---- tables that don't change

same_rows : (old : List ℕ) (rows : List Row) → map (renamed_row old old) rows ≡ rows
same_rows old rows = rows_stay old old rows (by rows)
  where
    by : (rows : List Row) → AllByRecursion (λ row. renamed_row old old row ≡ row) rows
    by [] = tt
    by (row ∷ rows) = (row_stays old old row (λ e. sym ((bytes_eq-Decides row.test old).0 e)), by rows)

-- renaming a test to its own name leaves the table as it is
pub renamed_same : (old : List ℕ) (table : Table) → renamed old old table ≡ table
renamed_same old [] = refl
renamed_same old (rows ∷ table) = ap (λ (rs : List Row). rs ∷ renamed old old table) (same_rows old rows) ∙ ap (λ (t : Table). rows ∷ t) (renamed_same old table)

none_first : (a b : Bool) → (a || b) ≡ false → (a ≡ false) × (b ≡ false)
none_first false b e = (refl, e)
none_first true b e = absurd (false≢true (sym e))

-- rows stay, if none of them is of the test
pub none_renamed : (old new : List ℕ) (rows : List Row) → list_any (is_of_test old) rows ≡ false → map (renamed_row old new) rows ≡ rows
none_renamed old new rows none = rows_stay old new rows (by rows none)
  where
    by : (rows : List Row) → list_any (is_of_test old) rows ≡ false → AllByRecursion (λ row. renamed_row old new row ≡ row) rows
    by [] none = tt
    by (row ∷ rows) none =
        let parts = none_first (bytes_eq row.test old) (list_any (is_of_test old) rows) none in
        (row_stays old new row (λ e. absurd (false≢true (sym parts.0 ∙ e))), by rows parts.1)

any_joined : {X : Type 0} (p : X → Bool) (xs ys : List X) → list_any p (xs ++ ys) ≡ false → (list_any p xs ≡ false) × (list_any p ys ≡ false)
any_joined p [] ys none = (refl, none)
any_joined p (x ∷ xs) ys none =
    let first = none_first (p x) (list_any p (xs ++ ys)) none in
    let rest = any_joined p xs ys first.1 in
    (ap (λ (b : Bool). b || list_any p xs) first.0 ∙ rest.0, rest.1)

-- a table without a row of the test stays
pub renamed_none : (old new : List ℕ) (table : Table) → list_any (is_of_test old) (all_rows table) ≡ false → renamed old new table ≡ table
renamed_none old new [] none = refl
renamed_none old new (rows ∷ table) none =
    let parts = any_joined (is_of_test old) rows (all_rows table) none in
    ap (λ (rs : List Row). rs ∷ renamed old new table) (none_renamed old new rows parts.0) ∙ ap (λ (t : Table). rows ∷ t) (renamed_none old new table parts.1)

-- if rows have no keys, there are no rows
empty_by_keys : (rows : List Row) → length (keys_of rows) ≡ 0 → (row : Row) → In row rows → ⊥
empty_by_keys rows none row i = by (keys_of rows) none (In-to_ascending keys_order.exact (key_of_row row) (map key_of_row rows) (In-map key_of_row rows row i))
  where
    by : (keys : List Key) → length keys ≡ 0 → In (key_of_row row) keys → ⊥
    by [] none i = i
    by (key ∷ keys) none i = absurd (omega (arith, none))

-- a table without a section of the test stays, too
pub renamed_none_counted : (old new : List ℕ) (table : Table) → sections_of_test old table ≡ 0 → renamed old new table ≡ table
renamed_none_counted old new table none = renamed_none old new table (by (list_any (is_of_test old) (all_rows table)) refl)
  where
    by : (b : Bool) → list_any (is_of_test old) (all_rows table) ≡ b → b ≡ false
    by true e =
        let found = in_from_any (is_of_test old) (all_rows table) e in
        absurd (empty_by_keys (filter (is_of_test old) (all_rows table)) none found.0 (In-filter (is_of_test old) (all_rows table) found.0 found.1 found.2))
    by false e = refl

-- ---- totals

-- if two conditions agree, and `f` keeps items, picking from changed rows gives the same items as picking from the rows
pub items_picked : (p q : Row → Bool) (f : Row → Row) → ((row : Row) → p (f row) ≡ q row) → ((row : Row) → (f row).item ≡ row.item) → (rows : List Row)
    → map (λ row. row.item) (filter p (map f rows)) ≡ map (λ row. row.item) (filter q rows)
items_picked p q f same item [] = refl
items_picked p q f same item (row ∷ rows) =
    ap (λ (b : Bool). map (λ (r : Row). r.item) (cond b (f row ∷ filter p (map f rows)) (filter p (map f rows)))) (same row) ∙ by (q row) (items_picked p q f same item rows)
  where
    by : (b : Bool) → map (λ row. row.item) (filter p (map f rows)) ≡ map (λ row. row.item) (filter q rows)
        → map (λ row. row.item) (cond b (f row ∷ filter p (map f rows)) (filter p (map f rows))) ≡ map (λ row. row.item) (cond b (row ∷ filter q rows) (filter q rows))
    by true rest = ap (λ (i : ItemData). i ∷ map (λ (r : Row). r.item) (filter p (map f rows))) (item row) ∙ ap (λ (is : List ItemData). row.item ∷ is) rest
    by false rest = rest

module _ (old new : List ℕ) (rows : List Row) where
  files_same : files_of (map (renamed_row old new) rows) ≡ files_of rows
  files_same = ap (ascending (slice_cmp nat_cmp)) (map_of_map (renamed_row old new) (λ (row : Row). row.file) (λ (row : Row). row.file) rows (λ row. refl))

  items_same : (file : List ℕ) → items_of_file file (map (renamed_row old new) rows) ≡ items_of_file file rows
  items_same file = items_picked (has_file file) (has_file file) (renamed_row old new) (λ row. refl) (λ row. refl) rows

  over_same : (count : List ItemData → ℕ) → sum_by (λ file. count (items_of_file file (map (renamed_row old new) rows))) (files_of (map (renamed_row old new) rows)) ≡ sum_by (λ file. count (items_of_file file rows)) (files_of rows)
  over_same count = λ i. sum_by (λ file. count (items_same file i)) (files_same i)

  -- the renamed rows have the same totals, since totals don't depend on the names of tests
  pub totals_renamed : totals_over (map (renamed_row old new) rows) ≡ totals_over rows
  totals_renamed =
      same_totals (totals_over (map (renamed_row old new) rows)) (totals_over rows)
      (over_same (found_in nat_cmp line_point))
      (over_same (hit_in nat_cmp line_point hits_line))
      (over_same (found_in (slice_cmp nat_cmp) func_point))
      (over_same (hit_in (slice_cmp nat_cmp) func_point hits_function))
      (over_same (found_in branch_cmp branch_point))
      (over_same (hit_in branch_cmp branch_point hits_branch))

  -- what the renamed rows add up to has the same totals as what the rows add up to
  pub content_totals_renamed : totals_of (content_of (map (renamed_row old new) rows)) ≡ totals_of (content_of rows)
  content_totals_renamed = totals_of_rows (map (renamed_row old new) rows) ∙ totals_renamed ∙ sym (totals_of_rows rows)

-- a rename doesn't change a table's totals
pub table_totals_renamed : (old new : List ℕ) (table : Table) → totals_of (content_at (renamed old new table)) ≡ totals_of (content_at table)
table_totals_renamed old new table = ap (λ (rows : List Row). totals_of (content_of rows)) (rows_renamed old new table) ∙ content_totals_renamed old new (all_rows table)

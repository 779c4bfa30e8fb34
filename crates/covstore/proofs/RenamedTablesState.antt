-- The state after a test is renamed: the staged values are there under the new name, and the old test is gone.
use Rattle.covstore.proofs.Words.{◌≡◌, ℕ, Bool, true, false, cond, not, List, [], ◌∷◌, ◌++◌, map, filter, refl, sym, ap, ◌∙◌, subst, arith, IsPermutation, bytes_eq, false≢true, length-map, map-append, bytes_eq-Decides, BranchPoint, ItemData, Row, LineSum, Totals, Agree, checksum_of_row, checksums_in, BranchValueData, FunctionValueData, LineValueData, SectionData, branch_at, content_of, function_at, line_at, section_with, AreWithoutTest, IsStore, IsMoving, FileData, IsStateOf, totals_in, StandsFor, branch_sum, function_sum, line_sum, test_of, Table, all_rows, totals_of, Key, branches_in, has_key, items_at, lines_in, names_in, Contains-from, In-from}
use Rattle.std.specs.Option.{is_some}
use Rattle.std.proofs.lemmas.List.Elements.{filter-append}
use Rattle.std.proofs.lemmas.List.Sorted.{IsPermutation-filter_both, IsPermutation-sym}
use Rattle.covstore.specs.declared.sums.FunctionSum.{FunctionSum}
use Rattle.covstore.specs.declared.sums.BranchSum.{BranchSum}
use Rattle.covtable.specs.Renamed.{moved_rows, renamed, renamed_row}
use Rattle.covtable.specs.Without.{is_of_test}
use Rattle.covstore.proofs.AddsPlace.{state_agrees}
use Rattle.covtable.proofs.Alike.{AreAlike, alike_mapped, alike_permuted, alike_picked, alike_said}
use Rattle.covtable.proofs.ContentsChecksums.{checksums_there}
use Rattle.covtable.proofs.ContentsSections.{sections_same}
use Rattle.covstore.proofs.RenamedAlike.{same_sums, test_alike}
use Rattle.covtable.proofs.RenamedTables.{agree_in_renamed, content_totals_renamed, row_stays, rows_renamed, small_renamed}
use Rattle.covstore.proofs.StateSections.{sections_are}
use Rattle.covtable.proofs.ContentsKinds.{map_of_map}
use Rattle.covstore.proofs.StateTotals.{totals_are}
use Rattle.covstore.proofs.Stores.{store_of, store_sections, store_totals}
use Rattle.covtable.proofs.WithoutContent.{passed_over, picked, rows_without}
use Rattle.covstore.proofs.WithoutState.{state_without}

-- ---- states of other rows

-- the state of rows is that of alike rows too
pub state_alike : (rows others : List Row) (files : List (List ℕ × FileData)) → AreAlike rows others → IsStateOf rows files → IsStateOf others files
state_alike rows others files alike state = record {
  ascending = state.ascending;
  points = λ key. state.points key
      ∙ test_alike (items_at key rows) (items_at key others) (alike_mapped (λ (row : Row). row.item) (filter (has_key key) rows) (filter (has_key key) others) (alike_picked (has_key key) rows others alike));
  texts = λ checksum i. state.texts checksum (Contains-from (checksums_in rows) checksum ((alike_said checksum_of_row rows others alike).back checksum (In-from (checksums_in others) checksum i)));
  whole = state.whole;
}

-- lists of items with the same section add up to the same test
tests_by_section : (key : Key) (xs ys : List ItemData) → section_with key xs ≡ section_with key ys → test_of xs ≡ test_of ys
tests_by_section key xs ys same =
    let line : LineValueData → ℕ × LineSum = λ v. (v.line, record { count = v.count; has_checksum = is_some v.checksum }) in
    let function : FunctionValueData → List ℕ × FunctionSum = λ v. (v.name, record { line = v.line; count = v.count }) in
    let branch : BranchValueData → BranchPoint × BranchSum = λ v. (v.point, record { times = v.taken }) in
    same_sums xs ys
    (sym (map_of_map (line_at xs) line (line_sum xs) (lines_in xs) (λ n. refl)) ∙ ap (λ (s : SectionData). map line s.lines) same ∙ map_of_map (line_at ys) line (line_sum ys) (lines_in ys) (λ n. refl))
    (sym (map_of_map (function_at xs) function (function_sum xs) (names_in xs) (λ n. refl)) ∙ ap (λ (s : SectionData). map function s.functions) same
    ∙ map_of_map (function_at ys) function (function_sum ys) (names_in ys) (λ n. refl))
    (sym (map_of_map (branch_at xs) branch (branch_sum xs) (branches_in xs) (λ n. refl)) ∙ ap (λ (s : SectionData). map branch s.branches) same
    ∙ map_of_map (branch_at ys) branch (branch_sum ys) (branches_in ys) (λ n. refl))

-- a state of rows is also a state of any other rows with the same content, if the checksums of these agree
pub state_by_content : (rows others : List Row) (files : List (List ℕ × FileData)) → content_of rows ≡ content_of others → Agree (checksums_in others) → IsStateOf rows files → IsStateOf others files
state_by_content rows others files same agree state = record {
  ascending = state.ascending;
  points = λ key. state.points key ∙ tests_by_section key (items_at key rows) (items_at key others) (sections_same rows others same key);
  texts = λ checksum i. state.texts checksum (Contains-from (checksums_in rows) checksum (checksums_there others rows agree (sym same) checksum (In-from (checksums_in others) checksum i)));
  whole = state.whole;
}

-- ---- renamed rows are the other rows and the moved ones

not_not : (b : Bool) → b ≡ not (not b)
not_not true = refl
not_not false = refl

name_of : (b : Bool) (old new test : List ℕ) → b ≡ true → cond b new test ≡ new
name_of true old new test e = refl
name_of false old new test e = absurd (false≢true e)

module _ (old new : List ℕ) where
  others_stay : (rows : List Row) → map (renamed_row old new) (rows_without old rows) ≡ rows_without old rows
  others_stay [] = refl
  others_stay (row ∷ rows) = by (is_of_test old row) refl (others_stay rows)
    where
      by : (b : Bool) → bytes_eq row.test old ≡ b → map (renamed_row old new) (rows_without old rows) ≡ rows_without old rows
          → map (renamed_row old new) (rows_without old (row ∷ rows)) ≡ rows_without old (row ∷ rows)
      by true e rest =
          let over : rows_without old (row ∷ rows) ≡ rows_without old rows = passed_over (λ r. not (is_of_test old r)) row rows (ap not e) in
          ap (map (renamed_row old new)) over ∙ rest ∙ sym over
      by false e rest =
          let here : rows_without old (row ∷ rows) ≡ row ∷ rows_without old rows = picked (λ r. not (is_of_test old r)) row rows (ap not e) in
          ap (map (renamed_row old new)) here
          ∙ ap (λ (r : Row). r ∷ map (renamed_row old new) (rows_without old rows)) (row_stays old new row (λ is. absurd (false≢true (sym e ∙ is))))
          ∙ ap (λ (rs : List Row). row ∷ rs) rest ∙ sym here

  module _ (apart : old ≡ new → ⊥) where
    none_old : (b : Bool) → bytes_eq new old ≡ b → b ≡ false
    none_old true e = absurd (apart (sym ((bytes_eq-Decides new old).0 e)))
    none_old false e = refl

    not_old : (row : Row) → bytes_eq row.test old ≡ true → not (is_of_test old (renamed_row old new row)) ≡ true
    not_old row e = ap (λ (test : List ℕ). not (bytes_eq test old)) (name_of (bytes_eq row.test old) old new row.test e) ∙ ap not (none_old (bytes_eq new old) refl)

    moved_stay : (rows : List Row) → rows_without old (moved_rows old new rows) ≡ moved_rows old new rows
    moved_stay [] = refl
    moved_stay (row ∷ rows) = by (is_of_test old row) refl (moved_stay rows)
      where
        by : (b : Bool) → bytes_eq row.test old ≡ b → rows_without old (moved_rows old new rows) ≡ moved_rows old new rows
            → rows_without old (moved_rows old new (row ∷ rows)) ≡ moved_rows old new (row ∷ rows)
        by true e rest =
            let here : moved_rows old new (row ∷ rows) ≡ renamed_row old new row ∷ moved_rows old new rows = ap (map (renamed_row old new)) (picked (is_of_test old) row rows e) in
            ap (rows_without old) here
            ∙ picked (λ r. not (is_of_test old r)) (renamed_row old new row) (moved_rows old new rows) (not_old row e)
            ∙ ap (λ (rs : List Row). renamed_row old new row ∷ rs) rest ∙ sym here
        by false e rest =
            let over : moved_rows old new (row ∷ rows) ≡ moved_rows old new rows = ap (map (renamed_row old new)) (passed_over (is_of_test old) row rows e) in
            ap (rows_without old) over ∙ rest ∙ sym over

    -- the rows and the moved rows, without the rows of the old test, are the renamed rows in another order
    pub left_alike : (rows : List Row) → AreAlike (rows_without old (rows ++ moved_rows old new rows)) (map (renamed_row old new) rows)
    left_alike rows =
        let parts : List Row = rows_without old rows ++ filter (is_of_test old) rows in
        let permuted : IsPermutation rows parts = IsPermutation-filter_both (λ r. not (is_of_test old r)) (is_of_test old) (λ r. not_not (is_of_test old r)) rows in
        let left : rows_without old (rows ++ moved_rows old new rows) ≡ map (renamed_row old new) parts =
        filter-append (λ r. not (is_of_test old r)) rows (moved_rows old new rows)
        ∙ ap (λ (rs : List Row). rows_without old rows ++ rs) (moved_stay rows)
        ∙ ap (λ (rs : List Row). rs ++ moved_rows old new rows) (sym (others_stay rows))
        ∙ sym (map-append (renamed_row old new) (rows_without old rows) (filter (is_of_test old) rows)) in
        subst (λ (rs : List Row). AreAlike rs (map (renamed_row old new) rows)) (sym left)
        (alike_mapped (renamed_row old new) parts rows (alike_permuted parts rows (IsPermutation-sym rows parts permuted)))

    -- without the old test, the state with the moved rows is the state of the renamed rows
    pub renamed_state : (rows : List Row) (files after : List (List ℕ × FileData)) → IsStateOf (rows ++ moved_rows old new rows) files → AreWithoutTest old files after
        → IsStateOf (map (renamed_row old new) rows) after
    renamed_state rows files after state are =
        state_alike (rows_without old (rows ++ moved_rows old new rows)) (map (renamed_row old new) rows) after (left_alike rows) (state_without old (rows ++ moved_rows old new rows) files after state are)

-- ---- the store

module _ (old new : List ℕ) (apart : old ≡ new → ⊥) (members : ℕ) (committed : Totals) (files staged after : List (List ℕ × FileData)) (is : IsStore members committed files)
    (moves : (rows : List Row) → IsStateOf rows files → IsStateOf (rows ++ moved_rows old new rows) staged) (are : AreWithoutTest old staged after) where
  -- if the files are the state of some rows, the files afterwards are the state of the renamed rows
  state_now : (rows : List Row) → IsStateOf rows files → IsStateOf (map (renamed_row old new) rows) after
  state_now rows state = renamed_state old new apart rows staged after (moves rows state) are

  -- likewise for the rows of a table
  table_now : (table : Table) → IsStateOf (all_rows table) files → IsStateOf (all_rows (renamed old new table)) after
  table_now table state = subst (λ (rows : List Row). IsStateOf rows after) (sym (rows_renamed old new table)) (state_now (all_rows table) state)

  pub totals_kept : committed ≡ totals_in after
  totals_kept =
      let rows = all_rows is.own in
      let now = map (renamed_row old new) rows in
      let state = state_now rows is.state in
      let agree = state_agrees now after state in
      store_totals members committed files is ∙ ap totals_of (store_sections members committed files is)
      ∙ sym (content_totals_renamed old new rows) ∙ sym (ap totals_of (sections_are now after state agree)) ∙ totals_are now after state agree

  -- the store after the rename, with the same totals
  pub store_renamed : IsStore members committed after
  store_renamed = record {
    own = renamed old new is.own;
    state = table_now is.own is.state;
    agree = agree_in_renamed old new is.own is.agree;
    counted = is.counted ∙ sym (length-map is.own (map (renamed_row old new)));
    few = omega (arith, is.few, length-map is.own (map (renamed_row old new)));
    small = small_renamed old new is.own is.small;
    totals = totals_kept;
  }

  -- if the store represents a table, it represents the renamed table afterwards
  pub stands_renamed : (staged_before staged_after : List (List ℕ × FileData)) (before later : Totals) (table : Table) → StandsFor (store_of members files staged_before before) table
      → StandsFor (store_of members after staged_after later) (renamed old new table)
  stands_renamed staged_before staged_after before later table stands =
      let same : content_of (all_rows is.own) ≡ content_of (all_rows table) = sym (store_sections members committed files is) ∙ stands.content in
      let state = table_now table (state_by_content (all_rows is.own) (all_rows table) files same stands.agree is.state) in
      let agree = agree_in_renamed old new table stands.agree in
      record {
        content = sections_are (all_rows (renamed old new table)) after state agree;
        members = stands.members ∙ sym (length-map table (map (renamed_row old new)));
        agree = agree;
        few = omega (arith, stands.few, length-map table (map (renamed_row old new)));
        small = small_renamed old new table stands.small;
      }

-- ---- a prepared rename

module _ (old new leaves : List ℕ) (members : ℕ) (committed later : Totals) (files staged after : List (List ℕ × FileData)) (is : IsStore members committed files)
    (moving : IsMoving (store_of members files staged later) old new leaves) (are : AreWithoutTest leaves staged after) where
  left_old : AreWithoutTest old staged after
  left_old = subst (λ (name : List ℕ). AreWithoutTest name staged after) moving.is_old are

  -- the store after the staged files are committed, and the old test is dropped
  pub store_moved : IsStore members committed after
  store_moved = store_renamed old new moving.apart members committed files staged after is moving.moves left_old

  pub stands_moved : (staged_after : List (List ℕ × FileData)) (totals_after : Totals) (table : Table) → StandsFor (store_of members files staged later) table
      → StandsFor (store_of members after staged_after totals_after) (renamed old new table)
  stands_moved staged_after totals_after table stands =
      stands_renamed old new moving.apart members committed files staged after is moving.moves left_old staged staged_after later totals_after table stands

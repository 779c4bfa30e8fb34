-- A page gets a column: where the column is, and that what is staged stays the same.
use Rattle.std.proofs.Common.{◌≡◌, ℕ, Bool, zero, suc, ◌<◌, true, false, Option, List, [], ◌∷◌, ◌++◌, length, take, drop, map, refl, sym, ap, ◌∙◌, subst, arith, length-take}
use mathlib.Core.Bool.{false≢true}
use Rattle.std.specs.Prelude.{Some, None, IsTrue, if◌then◌else◌, option_map, slice_get, nat_lt, nat_eq}
use Rattle.std.specs.List.{AllByRecursion, insert}
use Rattle.std.specs.Borrow.{Bor}
use Rattle.std.specs.Slice.{IsItemAt}
use Rattle.std.proofs.lemmas.Option.{slice_get_past, slice_get-get_or, slice_get-map}
use Rattle.std.proofs.lemmas.Bool.Decides.{nat_tests}
use Rattle.covmap.specs.Slots.{lead, page_at}
use Rattle.covmap.specs.Staged.{column_of, staged_of, AreAscending, AreAfter, IsColumnOf, AreColumnsOf, IsTouched}
use Rattle.covmap.proofs.Leads.{all_append, all_front, all_back, lead_le}
use Rattle.covmap.proofs.SlotSearch.{length_map}
use Rattle.covmap.proofs.StagedPages.{own_staged}
use Rattle.covmap.proofs.StagedSearch.{columns_front, columns_missing, columns_there, columns_put}

-- ---- reading a number

pub seen_item : {V P : Type 0} (seen : P → ℕ × List (Option V)) (ps : List P) (columns : List (ℕ × List (Option V))) (i : ℕ) (r : Option (Bor P)) → map seen ps ≡ columns → IsItemAt ps i r
    → slice_get columns i ≡ option_map (λ p. seen p.now) r
seen_item seen ps columns i None view h = ap (λ columns. slice_get columns i) (sym view) ∙ slice_get-map seen ps i ∙ ap (option_map seen) (slice_get_past ps i h.3)
seen_item seen ps columns i (Some p) view h =
    ap (λ columns. slice_get columns i) (sym view) ∙ slice_get-map seen ps i ∙ ap (option_map seen) (slice_get-get_or ps i p.now h.3.0 ∙ ap Some (sym h.1))

same_number : (a b : ℕ) → nat_eq a b ≡ true → a ≡ b
same_number a b e = grind (arith, nat_tests)

number_same : (a b : ℕ) → a ≡ b → nat_eq a b ≡ true
number_same a b e = grind (arith, nat_tests)

pub tells_number : (a page : ℕ) (number : Option ℕ) → number ≡ Some a → (IsTrue (nat_eq a page) → number ≡ Some page) × (number ≡ Some page → IsTrue (nat_eq a page))
tells_number a page number e = (λ t. e ∙ ap Some (same_number a page t), λ h. number_same a page (let same : a ≡ page = cc in same))

pub tells_none : (page : ℕ) (number : Option ℕ) → number ≡ None → (IsTrue false → number ≡ Some page) × (number ≡ Some page → IsTrue false)
tells_none page number e = (λ t. absurd (false≢true t), λ h. absurd cc)

-- a column of this number comes after all columns with smaller numbers
number_leads_at : {V : Type 0} (column : ℕ × List (Option V)) (columns : List (ℕ × List (Option V))) (page i : ℕ) (less : Bool) → nat_lt column.0 page ≡ less → column.0 < page → i ≡ lead (λ other. nat_lt other.0 page) columns
    → suc i ≡ (if less then suc (lead (λ other. nat_lt other.0 page) columns) else 0)
number_leads_at column columns page i true e l same = ap suc same
number_leads_at column columns page i false e l same = absurd (let other : nat_lt column.0 page ≡ true = grind (arith, nat_tests) in false≢true (sym e ∙ other))

after_this : {V : Type 0} (number : ℕ) (columns : List (ℕ × List (Option V))) (page i : ℕ) → AreAfter number columns → option_map (λ column. column.0) (slice_get columns i) ≡ Some page → number < page
after_this number [] page i following e = absurd cc
after_this number (column ∷ columns) page zero following e = let same : column.0 ≡ page = cc in subst (λ n. number < n) same following.0
after_this number (column ∷ columns) page (suc i) following e = after_this number columns page i following.1 e

pub number_leads : {V : Type 0} (columns : List (ℕ × List (Option V))) (page i : ℕ) → AreAscending columns → option_map (λ column. column.0) (slice_get columns i) ≡ Some page → i ≡ lead (λ column. nat_lt column.0 page) columns
number_leads [] page i ascending e = absurd cc
number_leads (column ∷ columns) page zero ascending e =
    let same : column.0 ≡ page = cc in
    let not_less : nat_lt column.0 page ≡ false = grind (arith, nat_tests, same) in
    rw not_less refl
number_leads (column ∷ columns) page (suc i) ascending e =
    number_leads_at column columns page i (nat_lt column.0 page) refl (after_this column.0 columns page i ascending.0 e) (number_leads columns page i ascending.1 e)

-- ---- a column is inserted

take_drop : {X : Type 0} (xs : List X) (n : ℕ) → take n xs ++ drop n xs ≡ xs
take_drop xs zero = refl
take_drop [] (suc n) = refl
take_drop (x ∷ xs) (suc n) = ap (λ rest. x ∷ rest) (take_drop xs n)

pub map_insert : {P X : Type 0} (f : P → X) (ps : List P) (i : ℕ) (p : P) → map f (insert ps i p) ≡ insert (map f ps) i (f p)
map_insert f ps zero p = refl
map_insert f [] (suc i) p = refl
map_insert f (q ∷ ps) (suc i) p = ap (λ rest. f q ∷ rest) (map_insert f ps i p)

column_of_length : {K V : Type 0} (page : List (K × Option V)) → length (column_of page) ≡ length page
column_of_length page = length_map (λ slot. slot.1) page

module _ {K V : Type 0} (pages : List (List (K × Option V))) (columns : List (ℕ × List (Option V))) (page index : ℕ) (found : index ≡ lead (λ column. nat_lt column.0 page) columns) where
  front_below : AllByRecursion (λ other. other.0 < page) (take index columns)
  front_below = rw found (columns_front page columns)

  front_length : index ≡ length (take index columns)
  front_length =
      let within = lead_le (λ (column : ℕ × List (Option V)). nat_lt column.0 page) columns in
      omega (arith, length-take index columns, found, within)

  pub touched_there : AreColumnsOf pages columns → option_map (λ column. column.0) (slice_get columns index) ≡ Some page → IsTouched pages columns columns page index
  touched_there fit e =
      let parts = columns_there page columns index e in
      let following = all_back (IsColumnOf pages) (take index columns) ((page, parts.0) ∷ drop (suc index) columns) (subst (AreColumnsOf pages) parts.1 fit) in
      record {
        front = take index columns;
        column = parts.0;
        back = drop (suc index) columns;
        is = parts.1;
        at = front_length;
        below = front_below;
        fits = following.0.1;
        columns = fit;
        staged = refl;
      }

  module _ (ascending : AreAscending columns) (none : option_map (λ column. column.0) (slice_get columns index) ≡ Some page → ⊥) where
    back_above : AllByRecursion (λ other. page < other.0) (drop index columns)
    back_above = rw found (columns_missing page columns ascending (rw found at none))

    pub touched_ascending : (column : List (Option V)) → AreAscending (insert columns index (page, column))
    touched_ascending column = columns_put page column (take index columns) (drop index columns) front_below back_above (subst AreAscending (sym (take_drop columns index)) ascending)

    pub touched_new : (column : List (Option V)) → AreColumnsOf pages columns → page < length pages → column ≡ column_of (page_at pages page)
        → IsTouched pages columns (insert columns index (page, column)) page index
    touched_new column fit there e =
        let whole = subst (AreColumnsOf pages) (sym (take_drop columns index)) fit in
        let long : length column ≡ length (page_at pages page) = ap length e ∙ column_of_length (page_at pages page) in
        record {
          front = take index columns;
          column = column;
          back = drop index columns;
          is = refl;
          at = front_length;
          below = front_below;
          fits = long;
          columns = all_append (IsColumnOf pages) (take index columns) ((page, column) ∷ drop index columns) (all_front (IsColumnOf pages) (take index columns) (drop index columns) whole)
              ((there, long), all_back (IsColumnOf pages) (take index columns) (drop index columns) whole);
          staged = ap (λ column. staged_of pages (take index columns ++ (page, column) ∷ drop index columns)) e
              ∙ own_staged pages (take index columns) (drop index columns) page front_below back_above there
              ∙ ap (staged_of pages) (take_drop columns index);
        }

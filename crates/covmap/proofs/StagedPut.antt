-- A value written into the column of a page.
use Rattle.std.proofs.Common.{◌≡◌, ℕ, ◌<◌, Option, List, [], ◌∷◌, ◌++◌, length, get_or, set, map, refl, sym, ap, ◌∙◌, arith, length-append}
use Rattle.std.specs.Prelude.{Some}
use Rattle.covmap.specs.Staged.{staged_of, with_value_at, IsColumnOf, AreColumnsOf, IsTouched}
use Rattle.covmap.proofs.Leads.{all_append, all_front, all_back}
use Rattle.covmap.proofs.SlotSearch.{length_map}
use Rattle.covmap.proofs.SlotWrites.{map_set}
use Rattle.covmap.proofs.StagedPages.{value_staged}
use Rattle.covmap.proofs.StagedSearch.{map_read}

get_after : {X : Type 0} (front : List X) (x d : X) (back : List X) → get_or (front ++ x ∷ back) (length front) d ≡ x
get_after [] x d back = refl
get_after (y ∷ front) x d back = get_after front x d back

set_after : {X : Type 0} (front : List X) (x y : X) (back : List X) → set (front ++ x ∷ back) (length front) y ≡ front ++ y ∷ back
set_after [] x y back = refl
set_after (z ∷ front) x y back = ap (λ rest. z ∷ rest) (set_after front x y back)

-- the columns as contracts see them: the one at an index, and all of them after it is written
module _ {V P : Type 0} (seen : P → ℕ × List (Option V)) (ps : List P) (columns front : List (ℕ × List (Option V))) (x : ℕ × List (Option V)) (back : List (ℕ × List (Option V))) (index : ℕ)
    (view : map seen ps ≡ columns) (is : columns ≡ front ++ x ∷ back) (at : index ≡ length front) where
  pub index_within : index < length ps
  index_within = omega (arith, length_map seen ps, ap length (view ∙ is), length-append front (x ∷ back), at)

  pub seen_column : (p : P) → p ≡ get_or ps index p → seen p ≡ x
  seen_column p e =
      sym (map_read seen ps index p (seen p) index_within e) ∙ ap (λ columns. get_or columns index (seen p)) (view ∙ is) ∙ ap (λ i. get_or (front ++ x ∷ back) i (seen p)) at ∙ get_after front x (seen p) back

  pub seen_written : (q : P) (y : ℕ × List (Option V)) → seen q ≡ y → map seen (set ps index q) ≡ front ++ y ∷ back
  seen_written q y e =
      map_set seen ps index q ∙ ap (λ columns. set columns index (seen q)) (view ∙ is) ∙ ap (λ i. set (front ++ x ∷ back) i (seen q)) at ∙ set_after front x (seen q) back
      ∙ ap (λ y. front ++ y ∷ back) e

-- the columns still fit the pages
pub columns_written : {K V : Type 0} (pages : List (List (K × Option V))) (page : ℕ) (front back : List (ℕ × List (Option V))) (old new : List (Option V)) → length new ≡ length old
    → AreColumnsOf pages (front ++ (page, old) ∷ back) → AreColumnsOf pages (front ++ (page, new) ∷ back)
columns_written pages page front back old new e fit =
    let following = all_back (IsColumnOf pages) front ((page, old) ∷ back) fit in
    all_append (IsColumnOf pages) front ((page, new) ∷ back) (all_front (IsColumnOf pages) front ((page, old) ∷ back) fit) ((following.0.0, e ∙ following.0.1), following.1)

-- after a value is written into the page's column, what is staged has it at its place, and is otherwise the same
pub staged_written : {K V : Type 0} (pages : List (List (K × Option V))) (old new : List (ℕ × List (Option V))) (page index j : ℕ) (value : V) → page < length pages
    → (touched : IsTouched pages old new page index) → staged_of pages (touched.front ++ (page, set touched.column j (Some value)) ∷ touched.back) ≡ with_value_at (page, j) value (staged_of pages old)
staged_written pages old new page index j value there touched =
    value_staged pages touched.front touched.back page j touched.column value touched.below there touched.fits
    ∙ ap (with_value_at (page, j) value) (ap (staged_of pages) (sym touched.is) ∙ touched.staged)

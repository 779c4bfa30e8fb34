-- Committing what is staged, column by column, starting with the last.
use Rattle.std.proofs.Common.{◌≡◌, ℕ, zero, suc, ◌+◌, ◌<◌, Option, List, [], ◌∷◌, ◌++◌, length, get_or, map, take, set, refl, sym, ap, ◌∙◌, subst, arith}
use Rattle.std.specs.Prelude.{None}
use Rattle.std.specs.List.{AllByRecursion}
use Rattle.std.specs.declared.cmp.Ordering.{Ordering}
use Rattle.std.proofs.Math.ListN.{length-set}
use Rattle.covmap.specs.Slots.{AreSlots, page_at}
use Rattle.covmap.specs.Staged.{with_column, column_at, page_staged, staged_from, staged_of, with_page, AreAscending, IsColumnOf, AreColumnsOf}
use Rattle.covmap.proofs.Leads.{all_front, all_back, all_weaker}
use Rattle.covmap.proofs.StagedPages.{column_missing, nothing_staged, taken_more}
use Rattle.covmap.proofs.StagedWhole.{staged_whole, length_given}

append_nil : {X : Type 0} (xs : List X) → xs ++ [] ≡ xs
append_nil [] = refl
append_nil (x ∷ xs) = ap (λ rest. x ∷ rest) (append_nil xs)

-- the last column has the greatest number
below_last : {V : Type 0} (front : List (ℕ × List (Option V))) (column : ℕ × List (Option V)) → AreAscending (front ++ column ∷ []) → AllByRecursion (λ other. other.0 < column.0) front
below_last [] column a = tt
below_last {V} (first ∷ front) column a =
    let next = all_back (λ (other : ℕ × List (Option V)). first.0 < other.0) front (column ∷ []) a.0 in
    (next.0, below_last front column a.1)

pub ascending_front : {V : Type 0} (front back : List (ℕ × List (Option V))) → AreAscending (front ++ back) → AreAscending front
ascending_front [] back a = tt
ascending_front {V} (first ∷ front) back a = (all_front (λ (other : ℕ × List (Option V)). first.0 < other.0) front back a.0, ascending_front front back a.1)

-- if a page without a staged column is replaced, it is replaced in what is staged too, and nothing else changes there
staged_set : {K V : Type 0} (n i k : ℕ) (pages : List (List (K × Option V))) (columns : List (ℕ × List (Option V))) (page : List (K × Option V)) → n + i ≡ k → column_at k columns ≡ None
    → staged_from n (set pages i page) columns ≡ set (staged_from n pages columns) i page
staged_set n i k [] columns page e none = refl
staged_set n zero k (first ∷ pages) columns page e none =
    let same : n ≡ k = omega arith in
    ap (λ column. page_staged page column ∷ staged_from (suc n) pages columns) (ap (λ m. column_at m columns) same ∙ none)
staged_set n (suc i) k (first ∷ pages) columns page e none = ap (λ rest. page_staged first (column_at n columns) ∷ rest) (staged_set (suc n) i k pages columns page (omega arith) none)

-- the last column is committed: the staged entries stay
pub taken_last : {K V : Type 0} (pages : List (List (K × Option V))) (front : List (ℕ × List (Option V))) (column : ℕ × List (Option V)) → AreAscending (front ++ column ∷ [])
    → staged_of (with_page column.0 column.1 pages) front ≡ staged_of pages (front ++ column ∷ [])
taken_last pages front column a =
    let below = below_last front column a in
    let none = ap (column_at column.0) (sym (append_nil front)) ∙ column_missing column.0 front [] below tt in
    staged_set 0 column.0 column.0 pages front (with_column (page_at pages column.0) column.1) (omega arith) none
    ∙ sym (taken_more pages front column below)

-- ---- the columns that are left

long_as_before : {X : Type 0} (pages : List (List X)) (i j : ℕ) (page : List X) → length page ≡ length (get_or pages i []) → length (get_or (set pages i page) j []) ≡ length (get_or pages j [])
long_as_before [] i j page e = refl
long_as_before (first ∷ pages) zero zero page e = e
long_as_before (first ∷ pages) zero (suc j) page e = refl
long_as_before (first ∷ pages) (suc i) zero page e = refl
long_as_before (first ∷ pages) (suc i) (suc j) page e = long_as_before pages i j page e

pub columns_left : {K V : Type 0} (pages : List (List (K × Option V))) (front : List (ℕ × List (Option V))) (column : ℕ × List (Option V)) → AreColumnsOf pages (front ++ column ∷ [])
    → AreColumnsOf (with_page column.0 column.1 pages) front
columns_left pages front column a =
    let page = with_column (page_at pages column.0) column.1 in
    all_weaker (IsColumnOf pages) (IsColumnOf (with_page column.0 column.1 pages)) front
    (λ other fit. (omega (arith, fit.0, length-set pages column.0 page), fit.1 ∙ sym (long_as_before pages column.0 other.0 page (length_given (page_at pages column.0) column.1))))
    (all_front (IsColumnOf pages) front (column ∷ []) a)

-- ---- a page with new values

-- if this column is the only one, what is staged are the pages with its values on its page
page_taken : {K V : Type 0} (pages : List (List (K × Option V))) (number : ℕ) (column : List (Option V)) → staged_of pages ((number, column) ∷ []) ≡ with_page number column pages
page_taken {K} {V} pages number column =
    let one : ℕ × List (Option V) = (number, column) in
    let nothing : staged_of pages [] ≡ pages = nothing_staged 0 pages in
    taken_more pages [] one tt ∙ ap (λ (after : List (List (K × Option V))). set after number (with_column (page_at pages number) column)) nothing

pub page_whole : {K V : Type 0} (cmp : K → K → Ordering) (pages : List (List (K × Option V))) (number : ℕ) (column : List (Option V)) → AreSlots cmp pages → AreSlots cmp (with_page number column pages)
page_whole cmp pages number column slots = subst (AreSlots cmp) (page_taken pages number column) (staged_whole cmp pages ((number, column) ∷ []) slots)

pub none_given : {K V : Type 0} (page : List (K × Option V)) → with_column page [] ≡ page
none_given [] = refl
none_given (slot ∷ page) = refl

-- the first elements of `page ++ rest`, as many as `page` has, are `page`
pub written_back : {X : Type 0} (page rest : List X) (n : ℕ) → n ≡ length page → take n (page ++ rest) ≡ page
written_back [] rest zero e = refl
written_back [] rest (suc n) e = absurd (omega arith)
written_back (slot ∷ page) rest zero e = absurd (omega arith)
written_back (slot ∷ page) rest (suc n) e = ap (λ rest. slot ∷ rest) (written_back page rest n (omega arith))

-- ---- the columns that stay

map_append : {P X : Type 0} (f : P → X) (ps qs : List P) → map f (ps ++ qs) ≡ map f ps ++ map f qs
map_append f [] qs = refl
map_append f (p ∷ ps) qs = ap (λ rest. f p ∷ rest) (map_append f ps qs)

-- columns still ascend after the last ones are removed
pub seen_front : {V P : Type 0} (seen : P → ℕ × List (Option V)) (ps qs rest : List P) → ps ≡ qs ++ rest → AreAscending (map seen ps) → AreAscending (map seen qs)
seen_front seen ps qs rest e a = ascending_front (map seen qs) (map seen rest) (subst AreAscending (ap (map seen) e ∙ map_append seen qs rest) a)

-- What is staged after a column is inserted or replaced.
use Rattle.std.proofs.Common.{◌≡◌, ℕ, zero, suc, ◌+◌, ◌<◌, ◌≤◌, true, false, eqb, if◌then◌else◌, Option, List, [], ◌∷◌, ◌++◌, length, get_or, set, refl, sym, ap, ◌∙◌, arith}
use Rattle.std.specs.Prelude.{Some, None}
use Rattle.std.specs.List.{AllByRecursion}
use Rattle.std.proofs.Math.ListN.{length-set}
use Rattle.std.proofs.lemmas.Bool.Decides.{nat_tests}
use Rattle.covmap.specs.Slots.{page_at}
use Rattle.covmap.specs.Staged.{column_of, with_column, column_at, page_staged, staged_from, staged_of, with_value_at}

-- ---- one page

-- a page that is given its own values stays the same
pub own_column : {K V : Type 0} (page : List (K × Option V)) → with_column page (column_of page) ≡ page
own_column [] = refl
own_column (slot ∷ page) = ap (λ rest. slot ∷ rest) (own_column page)

-- a page has the values that it was given
pub column_given : {K V : Type 0} (page : List (K × Option V)) (column : List (Option V)) → length column ≡ length page → column_of (with_column page column) ≡ column
column_given [] [] e = refl
column_given [] (value ∷ column) e = absurd (omega arith)
column_given (slot ∷ page) [] e = absurd (omega arith)
column_given (slot ∷ page) (value ∷ column) e = ap (λ rest. value ∷ rest) (column_given page column (omega arith))

-- of two columns given to a page, the last one counts
pub column_again : {K V : Type 0} (page : List (K × Option V)) (first column : List (Option V)) → length first ≡ length page → length column ≡ length page
    → with_column (with_column page first) column ≡ with_column page column
column_again [] first column e f = refl
column_again (slot ∷ page) [] column e f = absurd (omega arith)
column_again (slot ∷ page) (value ∷ first) [] e f = absurd (omega arith)
column_again (slot ∷ page) (value ∷ first) (other ∷ column) e f = ap (λ rest. (slot.0, other) ∷ rest) (column_again page first column (omega arith) (omega arith))

-- ---- all pages

-- pages that get the same columns are the same
pub same_staged : {K V : Type 0} (n : ℕ) (pages : List (List (K × Option V))) (old new : List (ℕ × List (Option V))) → ((m : ℕ) → n ≤ m → column_at m new ≡ column_at m old)
    → staged_from n pages new ≡ staged_from n pages old
same_staged n [] old new f = refl
same_staged n (page ∷ pages) old new f =
    ap (λ column. page_staged page column ∷ staged_from (suc n) pages new) (f n (omega arith))
    ∙ ap (λ rest. page_staged page (column_at n old) ∷ rest) (same_staged (suc n) pages old new (λ m l. f m (omega arith)))

-- if only one page gets another column, only that page changes
pub changed : {K V : Type 0} (n i k : ℕ) (pages : List (List (K × Option V))) (old new : List (ℕ × List (Option V))) (column : List (Option V)) → n + i ≡ k → column_at k new ≡ Some column
    → ((m : ℕ) → (m ≡ k → ⊥) → column_at m new ≡ column_at m old) → staged_from n pages new ≡ set (staged_from n pages old) i (with_column (get_or pages i []) column)
changed n i k [] old new column e here others = refl
changed n zero k (page ∷ pages) old new column e here others =
    let same : n ≡ k = omega arith in
    ap (λ column. page_staged page column ∷ staged_from (suc n) pages new) (ap (λ m. column_at m new) same ∙ here)
    ∙ ap (λ rest. with_column page column ∷ rest) (same_staged (suc n) pages old new (λ m l. others m (λ other. omega arith)))
changed n (suc i) k (page ∷ pages) old new column e here others =
    ap (λ column. page_staged page column ∷ staged_from (suc n) pages new) (others n (λ same. omega arith))
    ∙ ap (λ rest. page_staged page (column_at n old) ∷ rest) (changed (suc n) i k pages old new column (omega arith) here others)

-- the page of a number, with what is staged on it
pub page_of_staged : {K V : Type 0} (n i k : ℕ) (pages : List (List (K × Option V))) (columns : List (ℕ × List (Option V))) → n + i ≡ k → i < length pages
    → get_or (staged_from n pages columns) i [] ≡ page_staged (get_or pages i []) (column_at k columns)
page_of_staged n i k [] columns e l = absurd (omega arith)
page_of_staged n zero k (page ∷ pages) columns e l = let same : n ≡ k = omega arith in ap (λ m. page_staged page (column_at m columns)) same
page_of_staged n (suc i) k (page ∷ pages) columns e l = page_of_staged (suc n) i k pages columns (omega arith) (omega arith)

-- ---- a column among others

apart : (a b : ℕ) → (b ≡ a → ⊥) → eqb a b ≡ false
apart a b f = grind (arith, nat_tests)

alike : (a : ℕ) → eqb a a ≡ true
alike a = grind (arith, nat_tests)

-- the column makes no difference when another page's column is looked up
pub column_passed : {V : Type 0} (m : ℕ) (front : List (ℕ × List (Option V))) (column : ℕ × List (Option V)) (back : List (ℕ × List (Option V))) → (m ≡ column.0 → ⊥)
    → column_at m (front ++ column ∷ back) ≡ column_at m (front ++ back)
column_passed m [] column back f = rw (apart column.0 m f) refl
column_passed m (first ∷ front) column back f = ap (λ rest. if eqb first.0 m then Some first.1 else rest) (column_passed m front column back f)

-- the column is found if the columns in front of it have smaller numbers
pub column_found : {V : Type 0} (front : List (ℕ × List (Option V))) (column : ℕ × List (Option V)) (back : List (ℕ × List (Option V))) → AllByRecursion (λ other. other.0 < column.0) front
    → column_at column.0 (front ++ column ∷ back) ≡ Some column.1
column_found [] column back a = rw (alike column.0) refl
column_found (first ∷ front) column back a = rw (apart first.0 column.0 (λ e. omega (arith, a.0))) (column_found front column back a.1)

-- between smaller and greater numbers there is no column of this number
pub column_missing : {V : Type 0} (m : ℕ) (front back : List (ℕ × List (Option V))) → AllByRecursion (λ other. other.0 < m) front → AllByRecursion (λ other. m < other.0) back
    → column_at m (front ++ back) ≡ None
column_missing m [] [] a b = refl
column_missing m [] (column ∷ back) a b = rw (apart column.0 m (λ e. omega (arith, b.0))) (column_missing m [] back tt b.1)
column_missing m (first ∷ front) back a b = rw (apart first.0 m (λ e. omega (arith, a.0))) (column_missing m front back a.1 b)

-- a column of the page's own values changes nothing
pub own_staged : {K V : Type 0} (pages : List (List (K × Option V))) (front back : List (ℕ × List (Option V))) (i : ℕ) → AllByRecursion (λ other. other.0 < i) front
    → AllByRecursion (λ other. i < other.0) back → i < length pages → staged_of pages (front ++ (i, column_of (page_at pages i)) ∷ back) ≡ staged_of pages (front ++ back)
own_staged {K} {V} pages front back i a b l =
    let own : ℕ × List (Option V) = (i, column_of (page_at pages i)) in
    changed 0 i i pages (front ++ back) (front ++ own ∷ back) own.1 (omega arith) (column_found front own back a) (λ m f. column_passed m front own back f)
    ∙ ap (set (staged_of pages (front ++ back)) i)
    (own_column (page_at pages i) ∙ sym (page_of_staged 0 i i pages (front ++ back) (omega arith) l ∙ ap (page_staged (page_at pages i)) (column_missing i front back a b)))
    ∙ set_own (staged_of pages (front ++ back)) i
  where
    set_own : {X : Type 0} (xs : List (List X)) (i : ℕ) → set xs i (get_or xs i []) ≡ xs
    set_own [] i = refl
    set_own (x ∷ xs) zero = refl
    set_own (x ∷ xs) (suc i) = ap (λ rest. x ∷ rest) (set_own xs i)

-- writing a value into a staged column writes it into what is staged
pub value_staged : {K V : Type 0} (pages : List (List (K × Option V))) (front back : List (ℕ × List (Option V))) (i j : ℕ) (column : List (Option V)) (value : V)
    → AllByRecursion (λ other. other.0 < i) front → i < length pages → length column ≡ length (page_at pages i)
    → staged_of pages (front ++ (i, set column j (Some value)) ∷ back) ≡ with_value_at (i, j) value (staged_of pages (front ++ (i, column) ∷ back))
value_staged {K} {V} pages front back i j column value a l e =
    let old : ℕ × List (Option V) = (i, column) in
    let new : ℕ × List (Option V) = (i, set column j (Some value)) in
    let page = page_at pages i in
    let there : get_or (staged_of pages (front ++ old ∷ back)) i [] ≡ with_column page column = page_of_staged 0 i i pages (front ++ old ∷ back) (omega arith) l ∙ ap (page_staged page) (column_found front old back a) in
    changed 0 i i pages (front ++ old ∷ back) (front ++ new ∷ back) new.1 (omega arith) (column_found front new back a)
    (λ m f. column_passed m front new back f ∙ sym (column_passed m front old back f))
    ∙ ap (set (staged_of pages (front ++ old ∷ back)) i) (sym (column_again page column (set column j (Some value)) e (length-set column j (Some value) ∙ e)))
    ∙ ap (λ values. set (staged_of pages (front ++ old ∷ back)) i (with_column (with_column page column) (set values j (Some value)))) (sym (column_given page column e))
    ∙ ap (λ page. set (staged_of pages (front ++ old ∷ back)) i (with_column page (set (column_of page) j (Some value)))) (sym there)

-- ---- committing

-- one more column is committed, after those with smaller numbers
pub taken_more : {K V : Type 0} (pages : List (List (K × Option V))) (done : List (ℕ × List (Option V))) (column : ℕ × List (Option V)) → AllByRecursion (λ other. other.0 < column.0) done
    → staged_of pages (done ++ column ∷ []) ≡ set (staged_of pages done) column.0 (with_column (page_at pages column.0) column.1)
taken_more pages done column a =
    changed 0 column.0 column.0 pages done (done ++ column ∷ []) column.1 (omega arith) (column_found done column [] a) (λ m f. column_passed m done column [] f ∙ ap (column_at m) (nil done))
  where
    nil : {X : Type 0} (xs : List X) → xs ++ [] ≡ xs
    nil [] = refl
    nil (x ∷ xs) = ap (λ rest. x ∷ rest) (nil xs)

-- if nothing is staged, the slots stay
pub nothing_staged : {K V : Type 0} (n : ℕ) (pages : List (List (K × Option V))) → staged_from n pages [] ≡ pages
nothing_staged n [] = refl
nothing_staged n (page ∷ pages) = ap (λ rest. page ∷ rest) (nothing_staged (suc n) pages)

-- What is staged in the slots: columns of values for some pages, kept beside the slots.
use Rattle.std.specs.Prelude.{◌≡◌, ℕ, suc, ◌<◌, eqb, nat_lt, if◌then◌else◌, Option, Some, None, option_map, List, [], ◌∷◌, ◌++◌, length, take, drop, slice_set, map}
use Rattle.std.specs.List.{AllByRecursion, insert}
use Rattle.covmap.specs.Slots.{page_at, At}

-- the values of a page
abbrev pub column_of : {K V : Type 0} → List (K × Option V) → List (Option V)
column_of page = map (λ slot. slot.1) page

-- the page after its first slots get these values, one after another. The keys stay, and so do the other slots
abbrev pub with_column : {K V : Type 0} → List (K × Option V) → List (Option V) → List (K × Option V)
with_column [] column = []
with_column (slot ∷ page) [] = slot ∷ page
with_column (slot ∷ page) (value ∷ column) = (slot.0, value) ∷ with_column page column

-- the pages with these values on one of them
abbrev pub with_page : {K V : Type 0} → ℕ → List (Option V) → List (List (K × Option V)) → List (List (K × Option V))
with_page number column pages = slice_set pages number (with_column (page_at pages number) column)

-- the staged column of this page, if it has one
abbrev pub column_at : {V : Type 0} → ℕ → List (ℕ × List (Option V)) → Option (List (Option V))
column_at page [] = None
column_at page (column ∷ columns) = if eqb column.0 page then Some column.1 else column_at page columns

-- the page with what is staged on it
abbrev pub page_staged : {K V : Type 0} → List (K × Option V) → Option (List (Option V)) → List (K × Option V)
page_staged page None = page
page_staged page (Some column) = with_column page column

-- the pages from this number on, with what is staged
abbrev pub staged_from : {K V : Type 0} → ℕ → List (List (K × Option V)) → List (ℕ × List (Option V)) → List (List (K × Option V))
staged_from number [] columns = []
staged_from number (page ∷ pages) columns = page_staged page (column_at number columns) ∷ staged_from (suc number) pages columns

-- the pages with what is staged: what the slots are after a commit
abbrev pub staged_of : {K V : Type 0} → List (List (K × Option V)) → List (ℕ × List (Option V)) → List (List (K × Option V))
staged_of pages columns = staged_from 0 pages columns

-- the pages after the slot at a place gets this value
abbrev pub with_value_at : {K V : Type 0} → At → V → List (List (K × Option V)) → List (List (K × Option V))
with_value_at at value pages = slice_set pages at.0 (with_column (page_at pages at.0) (slice_set (column_of (page_at pages at.0)) at.1 (Some value)))

-- each column is of a page that comes after the page of this number
abbrev pub AreAfter : {V : Type 0} → ℕ → List (ℕ × List (Option V)) → Type 0
AreAfter number columns = AllByRecursion (λ column. number < column.0) columns

-- the page numbers of the columns ascend
abbrev pub AreAscending : {V : Type 0} → List (ℕ × List (Option V)) → Type 0
AreAscending [] = Unit {0}
AreAscending (column ∷ columns) = AreAfter column.0 columns × AreAscending columns

-- the column is of one of these pages, and has a value for each slot of that page
abbrev pub IsColumnOf : {K V : Type 0} → List (List (K × Option V)) → ℕ × List (Option V) → Type 0
IsColumnOf pages column = (column.0 < length pages) × (length column.1 ≡ length (page_at pages column.0))

-- each column is of one of these pages, and has a value for each slot of that page
abbrev pub AreColumnsOf : {K V : Type 0} → List (List (K × Option V)) → List (ℕ × List (Option V)) → Type 0
AreColumnsOf pages columns = AllByRecursion (IsColumnOf pages) columns

-- in `new`, the page has a column, which is at this index. The staged values are the same as in `old`
pub record IsTouched {K V : Type 0} (pages : List (List (K × Option V))) (old new : List (ℕ × List (Option V))) (page index : ℕ) : Type 0 where
  pub front : List (ℕ × List (Option V))
  pub column : List (Option V)
  pub back : List (ℕ × List (Option V))
  pub is : new ≡ front ++ (page, column) ∷ back
  pub at : index ≡ length front
  pub below : AllByRecursion (λ other. other.0 < page) front
  pub fits : length column ≡ length (page_at pages page)
  pub columns : AreColumnsOf pages new
  pub staged : staged_of pages new ≡ staged_of pages old

-- ---- one more slot

-- a list of one column, with the number of its page, or an empty list if the page has no column
abbrev pub own_of : {V : Type 0} → ℕ → Option (List (Option V)) → List (ℕ × List (Option V))
own_of page None = []
own_of page (Some column) = (page, column) ∷ []

-- the columns are those of the pages in front, the column of this page if it has one, and those of later pages
pub record IsAmong {V : Type 0} (page : ℕ) (columns front : List (ℕ × List (Option V))) (here : Option (List (Option V))) (back : List (ℕ × List (Option V))) : Type 0 where
  pub is : columns ≡ front ++ (own_of page here ++ back)
  pub below : AllByRecursion (λ other. other.0 < page) front
  pub above : AllByRecursion (λ other. page < other.0) back

-- the columns after an empty value is inserted at this index of the page's column, if the page has a column
pub record IsWidened {V : Type 0} (page index : ℕ) (old new : List (ℕ × List (Option V))) : Type 0 where
  pub front : List (ℕ × List (Option V))
  pub here : Option (List (Option V))
  pub back : List (ℕ × List (Option V))
  pub was : IsAmong page old front here back
  pub is : new ≡ front ++ (own_of page (option_map (λ column. insert column index None) here) ++ back)

-- ---- a page split in two

-- the number that page `number` has after page `page` is split in two: pages behind `page` move up by one
abbrev pub number_after : ℕ → ℕ → ℕ
number_after page number = if nat_lt page number then suc number else number

-- the column with its page's new number
abbrev pub moved : {V : Type 0} → ℕ → ℕ × List (Option V) → ℕ × List (Option V)
moved page column = (number_after page column.0, column.1)

-- the columns of the two pages that a page is split into, or no columns if that page had none
abbrev pub halves_of : {V : Type 0} → ℕ → Option (List (Option V)) → List (ℕ × List (Option V))
halves_of page None = []
halves_of page (Some column) = (page, take 128 column) ∷ (suc page, drop 128 column) ∷ []

-- the columns after a page is split in two: each column of a later page gets the next number, and the page's own column, if it
-- has one, is split in two
pub record IsSplit {V : Type 0} (page : ℕ) (old new : List (ℕ × List (Option V))) : Type 0 where
  pub front : List (ℕ × List (Option V))
  pub here : Option (List (Option V))
  pub back : List (ℕ × List (Option V))
  pub was : IsAmong page (map (moved page) old) front here back
  pub is : new ≡ front ++ (halves_of page here ++ back)

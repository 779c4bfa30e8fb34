-- Where the column of a page is among ascending columns, or would be inserted.
use Rattle.std.proofs.Common.{◌≡◌, ℕ, zero, suc, ◌<◌, ◌≤◌, Bool, true, false, if◌then◌else◌, Option, List, [], ◌∷◌, ◌++◌, length, get_or, take, drop, map, refl, sym, ap, ◌∙◌, arith}
use Rattle.std.specs.Prelude.{Some, option_map, slice_get, nat_lt}
use Rattle.std.specs.List.{AllByRecursion}
use Rattle.std.proofs.lemmas.Bool.Decides.{nat_tests}
use Rattle.covmap.specs.Slots.{lead}
use Rattle.covmap.specs.Staged.{AreAfter, AreAscending}
use Rattle.covmap.proofs.Leads.{all_append, all_front, all_back, all_weaker, IsFalling, lead_passes, lead_above_passed, lead_le_failed}
use Rattle.covmap.proofs.SlotSearch.{length_map}

pub below_true : (a b : ℕ) → a < b → nat_lt a b ≡ true
below_true a b l = grind (arith, nat_tests)

pub below_false : (a b : ℕ) → b ≤ a → nat_lt a b ≡ false
below_false a b l = grind (arith, nat_tests)

true_below : (a b : ℕ) → nat_lt a b ≡ true → a < b
true_below a b e = grind (arith, nat_tests)

false_above : (a b : ℕ) → nat_lt a b ≡ false → b ≤ a
false_above a b e = grind (arith, nat_tests)

-- the item at an index, after a map
pub map_read : {P X : Type 0} (f : P → X) (ps : List P) (i : ℕ) (p : P) (d : X) → i < length ps → p ≡ get_or ps i p → get_or (map f ps) i d ≡ f p
map_read f [] i p d l e = absurd (omega arith)
map_read f (q ∷ ps) zero p d l e = ap f (sym e)
map_read f (q ∷ ps) (suc i) p d l e = map_read f ps i p d (omega arith) e

module _ {V : Type 0} (page : ℕ) where
  pub columns_fall : (columns : List (ℕ × List (Option V))) → AreAscending columns → IsFalling (λ column. nat_lt column.0 page) columns
  columns_fall [] a = tt
  columns_fall (column ∷ columns) a = (
    λ e. all_weaker (λ other. column.0 < other.0) (λ other. nat_lt other.0 page ≡ false) columns
        (λ other l. let above = false_above column.0 page e in below_false other.0 page (omega (arith, above, l))) a.0,
    columns_fall columns a.1,
  )

  -- the columns in front have smaller numbers
  pub columns_front : (columns : List (ℕ × List (Option V))) → AllByRecursion (λ other. other.0 < page) (take (lead (λ column. nat_lt column.0 page) columns) columns)
  columns_front columns =
      all_weaker (λ other. nat_lt other.0 page ≡ true) (λ other. other.0 < page) (take (lead (λ column. nat_lt column.0 page) columns) columns) (λ other e. true_below other.0 page e)
      (lead_passes (λ column. nat_lt column.0 page) columns)

  missing_at : (column : ℕ × List (Option V)) (columns : List (ℕ × List (Option V))) → AreAfter column.0 columns → (b : Bool) → nat_lt column.0 page ≡ b
      → ((option_map (λ column. column.0) (slice_get columns (lead (λ column. nat_lt column.0 page) columns)) ≡ Some page → ⊥) → AllByRecursion (λ other. page < other.0) (drop (lead (λ column. nat_lt column.0 page) columns) columns))
      → (option_map (λ column. column.0) (slice_get (column ∷ columns) (if b then suc (lead (λ column. nat_lt column.0 page) columns) else 0)) ≡ Some page → ⊥)
      → AllByRecursion (λ other. page < other.0) (drop (if b then suc (lead (λ column. nat_lt column.0 page) columns) else 0) (column ∷ columns))
  missing_at column columns a true e f none = f none
  missing_at column columns a false e f none =
      let above = false_above column.0 page e in
      let other : column.0 ≡ page → ⊥ = λ same. none (ap Some same) in
      let following : page < column.0 = grind (arith, other, above) in
      (following, all_weaker (λ other. column.0 < other.0) (λ other. page < other.0) columns (λ other l. omega (arith, following, l)) a)

  -- if the page has no column, the columns that aren't in front have greater numbers
  pub columns_missing : (columns : List (ℕ × List (Option V))) → AreAscending columns
      → (option_map (λ column. column.0) (slice_get columns (lead (λ column. nat_lt column.0 page) columns)) ≡ Some page → ⊥)
      → AllByRecursion (λ other. page < other.0) (drop (lead (λ column. nat_lt column.0 page) columns) columns)
  columns_missing [] a none = tt
  columns_missing (column ∷ columns) a none = missing_at column columns a.0 (nat_lt column.0 page) refl (columns_missing columns a.1) none

  -- if the page has a column at an index, the columns are those before this index, this column, and those after it
  pub columns_there : (columns : List (ℕ × List (Option V))) (i : ℕ) → option_map (λ column. column.0) (slice_get columns i) ≡ Some page
      → (column : List (Option V)) × (columns ≡ take i columns ++ (page, column) ∷ drop (suc i) columns)
  columns_there [] i e = absurd cc
  columns_there (column ∷ columns) zero e = (column.1, let same : column.0 ≡ page = cc in ap (λ page. (page, column.1) ∷ columns) same)
  columns_there (column ∷ columns) (suc i) e = let rest = columns_there columns i e in (rest.0, ap (λ columns. column ∷ columns) rest.1)

  -- inserting a column keeps the order
  pub columns_put : (columns : List (Option V)) (front back : List (ℕ × List (Option V))) → AllByRecursion (λ other. other.0 < page) front → AllByRecursion (λ other. page < other.0) back
      → AreAscending (front ++ back) → AreAscending (front ++ (page, columns) ∷ back)
  columns_put columns [] back a b asc = (b, asc)
  columns_put columns (first ∷ front) back a b asc =
      let next = λ (other : ℕ × List (Option V)). first.0 < other.0 in
      (all_append next front ((page, columns) ∷ back) (all_front next front back asc.0) (a.0, all_back next front back asc.0), columns_put columns front back a.1 b asc.1)

  -- replacing a column keeps the order
  pub columns_changed : (old new : List (Option V)) (front back : List (ℕ × List (Option V))) → AreAscending (front ++ (page, old) ∷ back) → AreAscending (front ++ (page, new) ∷ back)
  columns_changed old new [] back asc = asc
  columns_changed old new (first ∷ front) back asc =
      let next = λ (other : ℕ × List (Option V)). first.0 < other.0 in
      let following = all_back next front ((page, old) ∷ back) asc.0 in
      (all_append next front ((page, new) ∷ back) (all_front next front ((page, old) ∷ back) asc.0) following, columns_changed old new front back asc.1)

-- ---- as a binary search finds it

pub index_low : {V P : Type 0} (seen : P → ℕ × List (Option V)) (ps : List P) (columns : List (ℕ × List (Option V))) (page i : ℕ) (p : P) → map seen ps ≡ columns → AreAscending (map seen ps)
    → i < length columns → p ≡ get_or ps i p → (seen p).0 < page → i < lead (λ column. nat_lt column.0 page) columns
index_low seen ps columns page i p view asc l e below =
    let within : i < length ps = rw (← length_map seen ps, view) l in
    let read = ap (λ columns. get_or columns i (seen p)) (sym view) ∙ map_read seen ps i p (seen p) within e in
    lead_above_passed (λ column. nat_lt column.0 page) columns i (seen p) (columns_fall page columns (rw view at asc)) l
    (ap (λ column. nat_lt column.0 page) read ∙ below_true (seen p).0 page below)

pub index_high : {V P : Type 0} (seen : P → ℕ × List (Option V)) (ps : List P) (columns : List (ℕ × List (Option V))) (page i : ℕ) (p : P) → map seen ps ≡ columns
    → i < length columns → p ≡ get_or ps i p → page ≤ (seen p).0 → lead (λ column. nat_lt column.0 page) columns ≤ i
index_high seen ps columns page i p view l e above =
    let within : i < length ps = rw (← length_map seen ps, view) l in
    let read = ap (λ columns. get_or columns i (seen p)) (sym view) ∙ map_read seen ps i p (seen p) within e in
    lead_le_failed (λ column. nat_lt column.0 page) columns i (seen p) l (ap (λ column. nat_lt column.0 page) read ∙ below_false (seen p).0 page above)

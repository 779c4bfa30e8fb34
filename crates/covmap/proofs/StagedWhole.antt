-- The staged entries have the keys of the slots, so they are valid slots themselves.
use Rattle.std.proofs.Common.{◌≡◌, ℕ, suc, Option, List, [], ◌∷◌, ◌++◌, length, refl, sym, ap, ◌∙◌, subst, arith}
use Rattle.std.specs.declared.cmp.Ordering.{Ordering}
use Rattle.std.specs.declared.cmp.Ordering.TheVariants.{Less}
use Rattle.std.specs.Prelude.{Some, None}
use Rattle.std.specs.List.{AllByRecursion}
use Rattle.std.specs.Map.{keys_of}
use Rattle.covmap.specs.Slots.{IsAscending, IsPage, AreSlots, slots_of}
use Rattle.covmap.specs.Staged.{with_column, column_at, page_staged, staged_from, staged_of}

keys_given : {K V : Type 0} (page : List (K × Option V)) (column : List (Option V)) → keys_of (with_column page column) ≡ keys_of page
keys_given [] column = refl
keys_given (slot ∷ page) [] = refl
keys_given (slot ∷ page) (value ∷ column) = ap (λ keys. slot.0 ∷ keys) (keys_given page column)

keys_append : {K V : Type 0} (front back : List (K × Option V)) → keys_of (front ++ back) ≡ keys_of front ++ keys_of back
keys_append [] back = refl
keys_append (slot ∷ front) back = ap (λ keys. slot.0 ∷ keys) (keys_append front back)

pub keys_page : {K V : Type 0} (page : List (K × Option V)) (column : Option (List (Option V))) → keys_of (page_staged page column) ≡ keys_of page
keys_page page None = refl
keys_page page (Some column) = keys_given page column

pub keys_staged : {K V : Type 0} (n : ℕ) (pages : List (List (K × Option V))) (columns : List (ℕ × List (Option V))) → keys_of (slots_of (staged_from n pages columns)) ≡ keys_of (slots_of pages)
keys_staged n [] columns = refl
keys_staged n (page ∷ pages) columns =
    keys_append (page_staged page (column_at n columns)) (slots_of (staged_from (suc n) pages columns))
    ∙ ap (λ keys. keys ++ keys_of (slots_of (staged_from (suc n) pages columns))) (keys_page page (column_at n columns))
    ∙ ap (λ keys. keys_of page ++ keys) (keys_staged (suc n) pages columns)
    ∙ sym (keys_append page (slots_of pages))

-- ---- by keys alone

all_by_keys : {K V : Type 0} (P : K → Type 0) (xs ys : List (K × Option V)) → keys_of xs ≡ keys_of ys → AllByRecursion (λ slot. P slot.0) xs → AllByRecursion (λ slot. P slot.0) ys
all_by_keys P [] [] e a = tt
all_by_keys P [] (y ∷ ys) e a = absurd cc
all_by_keys P (x ∷ xs) [] e a = absurd cc
all_by_keys P (x ∷ xs) (y ∷ ys) e a =
    let first : x.0 ≡ y.0 = cc in
    let rest : keys_of xs ≡ keys_of ys = cc in
    (subst P first a.0, all_by_keys P xs ys rest a.1)

pub ascending_by_keys : {K V : Type 0} (cmp : K → K → Ordering) (xs ys : List (K × Option V)) → keys_of xs ≡ keys_of ys → IsAscending cmp xs → IsAscending cmp ys
ascending_by_keys cmp [] [] e a = tt
ascending_by_keys cmp [] (y ∷ ys) e a = absurd cc
ascending_by_keys cmp (x ∷ xs) [] e a = absurd cc
ascending_by_keys cmp (x ∷ xs) (y ∷ ys) e a =
    let first : x.0 ≡ y.0 = cc in
    let rest : keys_of xs ≡ keys_of ys = cc in
    (all_by_keys (λ key. cmp y.0 key ≡ Less) xs ys rest (subst (λ key. AllByRecursion (λ next. cmp key next.0 ≡ Less) xs) first a.0), ascending_by_keys cmp xs ys rest a.1)

-- ---- the pages

pub length_given : {K V : Type 0} (page : List (K × Option V)) (column : List (Option V)) → length (with_column page column) ≡ length page
length_given [] column = refl
length_given (slot ∷ page) [] = refl
length_given (slot ∷ page) (value ∷ column) = ap suc (length_given page column)

length_page : {K V : Type 0} (page : List (K × Option V)) (column : Option (List (Option V))) → length (page_staged page column) ≡ length page
length_page page None = refl
length_page page (Some column) = length_given page column

pages_fit_staged : {K V : Type 0} (n : ℕ) (pages : List (List (K × Option V))) (columns : List (ℕ × List (Option V))) → AllByRecursion IsPage pages → AllByRecursion IsPage (staged_from n pages columns)
pages_fit_staged n [] columns a = tt
pages_fit_staged n (page ∷ pages) columns a =
    let same = length_page page (column_at n columns) in
    ((omega (arith, same, a.0.0), omega (arith, same, a.0.1)), pages_fit_staged (suc n) pages columns a.1)

-- the staged pages are valid slots
pub staged_whole : {K V : Type 0} (cmp : K → K → Ordering) (pages : List (List (K × Option V))) (columns : List (ℕ × List (Option V))) → AreSlots cmp pages → AreSlots cmp (staged_of pages columns)
staged_whole cmp pages columns slots = record {
  pages_fit = pages_fit_staged 0 pages columns slots.pages_fit;
  ascending = ascending_by_keys cmp (slots_of pages) (slots_of (staged_of pages columns)) (sym (keys_staged 0 pages columns)) slots.ascending;
}

-- A map with the same keys and other values.
use Rattle.std.proofs.Common.{◌≡◌, ℕ, zero, suc, Bool, true, false, eqb, if◌then◌else◌, Option, List, [], ◌∷◌, ◌++◌, length, map, refl, sym, ap, ◌∙◌, subst, arith}
use Rattle.std.specs.declared.cmp.Ordering.{Ordering}
use Rattle.std.specs.declared.cmp.Ordering.TheVariants.{Less}
use Rattle.std.specs.Prelude.{None, Some, option_map}
use Rattle.std.specs.List.{AllByRecursion}
use Rattle.std.proofs.lemmas.List.{map-append}
use Rattle.covmap.specs.Images.{slot_image, page_image, column_image}
use Rattle.covmap.specs.Slots.{IsAscending, IsPage, AreSlots, beside, filled, page_at, slots_of}
use Rattle.covmap.specs.Staged.{with_column, column_at, page_staged, staged_from, AreAfter, AreAscending, AreColumnsOf}
use Rattle.covmap.proofs.SlotSearch.{length_map}

-- ---- entries

filled_images : {K V W : Type 0} (image : V → W) (slots : List (K × Option V)) → filled (map (slot_image image) slots) ≡ map (λ pair. (pair.0, image pair.1)) (filled slots)
filled_images image [] = refl
filled_images image ((key, None) ∷ slots) = filled_images image slots
filled_images image ((key, Some value) ∷ slots) = ap (λ rest. (key, image value) ∷ rest) (filled_images image slots)

slots_images : {K V W : Type 0} (image : V → W) (pages : List (List (K × Option V))) → slots_of (map (page_image image) pages) ≡ map (slot_image image) (slots_of pages)
slots_images image [] = refl
slots_images image (page ∷ pages) = ap (λ rest. page_image image page ++ rest) (slots_images image pages) ∙ sym (map-append (slot_image image) page (slots_of pages))

-- the entries of the images are the images of the entries
pub entries_images : {K V W : Type 0} (image : V → W) (pages : List (List (K × Option V)))
    → filled (slots_of (map (page_image image) pages)) ≡ map (λ pair. (pair.0, image pair.1)) (filled (slots_of pages))
entries_images image pages = ap filled (slots_images image pages) ∙ filled_images image (slots_of pages)

-- ---- what is staged

first_or_rest : {X Y : Type 0} (f : X → Y) (test : Bool) (x : X) (rest : Option X) → (if test then Some (f x) else option_map f rest) ≡ option_map f (if test then Some x else rest)
first_or_rest f true x rest = refl
first_or_rest f false x rest = refl

column_at_images : {V W : Type 0} (image : V → W) (page : ℕ) (columns : List (ℕ × List (Option V)))
    → column_at page (map (column_image image) columns) ≡ option_map (map (option_map image)) (column_at page columns)
column_at_images image page [] = refl
column_at_images image page (column ∷ columns) =
    ap (λ rest. if eqb column.0 page then Some (map (option_map image) column.1) else rest) (column_at_images image page columns)
    ∙ first_or_rest (map (option_map image)) (eqb column.0 page) column.1 (column_at page columns)

with_column_image : {K V W : Type 0} (image : V → W) (page : List (K × Option V)) (column : List (Option V)) → with_column (page_image image page) (map (option_map image) column) ≡ page_image image (with_column page column)
with_column_image image [] column = refl
with_column_image image (slot ∷ page) [] = refl
with_column_image image (slot ∷ page) (value ∷ column) = ap (λ rest. (slot.0, option_map image value) ∷ rest) (with_column_image image page column)

page_staged_image : {K V W : Type 0} (image : V → W) (page : List (K × Option V)) (column : Option (List (Option V)))
    → page_staged (page_image image page) (option_map (map (option_map image)) column) ≡ page_image image (page_staged page column)
page_staged_image image page None = refl
page_staged_image image page (Some column) = with_column_image image page column

-- what the images of columns stage on the images of pages is the image of what is staged
pub staged_images : {K V W : Type 0} (image : V → W) (n : ℕ) (pages : List (List (K × Option V))) (columns : List (ℕ × List (Option V)))
    → staged_from n (map (page_image image) pages) (map (column_image image) columns) ≡ map (page_image image) (staged_from n pages columns)
staged_images image n [] columns = refl
staged_images {K} {V} {W} image n (page ∷ pages) columns =
    let rest : List (List (K × Option W)) = staged_from (suc n) (map (page_image image) pages) (map (column_image image) columns) in
    ap (λ column. page_staged (page_image image page) column ∷ rest) (column_at_images image n columns)
    ∙ ap (λ first. first ∷ rest) (page_staged_image image page (column_at n columns))
    ∙ ap (λ rest. page_image image (page_staged page (column_at n columns)) ∷ rest) (staged_images image (suc n) pages columns)

-- ---- the images are valid

all_images : {K V W : Type 0} (image : V → W) (P : K → Type 0) (slots : List (K × Option V)) → AllByRecursion (λ slot. P slot.0) slots → AllByRecursion (λ slot. P slot.0) (map (slot_image image) slots)
all_images image P [] a = tt
all_images image P (slot ∷ slots) a = (a.0, all_images image P slots a.1)

ascending_images : {K V W : Type 0} (image : V → W) (cmp : K → K → Ordering) (slots : List (K × Option V)) → IsAscending cmp slots → IsAscending cmp (map (slot_image image) slots)
ascending_images image cmp [] a = tt
ascending_images image cmp (slot ∷ slots) a = (all_images image (λ key. cmp slot.0 key ≡ Less) slots a.0, ascending_images image cmp slots a.1)

pages_fit_images : {K V W : Type 0} (image : V → W) (pages : List (List (K × Option V))) → AllByRecursion IsPage pages → AllByRecursion IsPage (map (page_image image) pages)
pages_fit_images image [] a = tt
pages_fit_images image (page ∷ pages) a =
    let same : length (page_image image page) ≡ length page = length_map (slot_image image) page in
    ((omega (arith, same, a.0.0), omega (arith, same, a.0.1)), pages_fit_images image pages a.1)

-- the images of pages of slots are pages of slots
pub whole_images : {K V W : Type 0} (image : V → W) (cmp : K → K → Ordering) (pages : List (List (K × Option V))) → AreSlots cmp pages → AreSlots cmp (map (page_image image) pages)
whole_images image cmp pages slots = record {
  pages_fit = pages_fit_images image pages slots.pages_fit;
  ascending = subst (IsAscending cmp) (sym (slots_images image pages)) (ascending_images image cmp (slots_of pages) slots.ascending);
}

after_images : {V W : Type 0} (image : V → W) (number : ℕ) (columns : List (ℕ × List (Option V))) → AreAfter number columns → AreAfter number (map (column_image image) columns)
after_images image number [] a = tt
after_images image number (column ∷ columns) a = (a.0, after_images image number columns a.1)

pub ascending_columns : {V W : Type 0} (image : V → W) (columns : List (ℕ × List (Option V))) → AreAscending columns → AreAscending (map (column_image image) columns)
ascending_columns image [] a = tt
ascending_columns image (column ∷ columns) a = (after_images image column.0 columns a.0, ascending_columns image columns a.1)

page_at_images : {K V W : Type 0} (image : V → W) (pages : List (List (K × Option V))) (i : ℕ) → page_at (map (page_image image) pages) i ≡ page_image image (page_at pages i)
page_at_images image [] i = refl
page_at_images image (page ∷ pages) zero = refl
page_at_images image (page ∷ pages) (suc i) = page_at_images image pages i

-- if these are columns of the pages, then the columns' images are columns of the pages' images
pub columns_of_images : {K V W : Type 0} (image : V → W) (pages : List (List (K × Option V))) (columns : List (ℕ × List (Option V)))
    → AreColumnsOf pages columns → AreColumnsOf (map (page_image image) pages) (map (column_image image) columns)
columns_of_images image pages [] a = tt
columns_of_images image pages (column ∷ columns) a =
    let fits = length_map (option_map image) column.1 ∙ a.0.1 ∙ sym (ap length (page_at_images image pages column.0) ∙ length_map (slot_image image) (page_at pages column.0)) in
    ((omega (arith, length_map (page_image image) pages, a.0.0), fits), columns_of_images image pages columns a.1)

-- ---- keys and values apart

beside_none : {K V W : Type 0} (image : V → W) (keys : List K) → beside {K = K} {V = W} keys [] ≡ page_image image (beside keys [])
beside_none image [] = refl
beside_none image (key ∷ keys) = ap (λ rest. (key, None) ∷ rest) (beside_none image keys)

-- keys beside the images of values are the image of the page
pub beside_image : {K V W : Type 0} (image : V → W) (keys : List K) (values : List (Option V)) → beside keys (map (option_map image) values) ≡ page_image image (beside keys values)
beside_image image [] values = refl
beside_image image (key ∷ keys) [] = beside_none image (key ∷ keys)
beside_image image (key ∷ keys) (value ∷ values) = ap (λ rest. (key, option_map image value) ∷ rest) (beside_image image keys values)

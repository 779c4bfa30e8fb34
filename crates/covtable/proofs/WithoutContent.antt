-- What a table without a test adds up to: the sections of the other tests. And how many sections a test has.
use Rattle.std.proofs.Common.{◌≡◌, ℕ, ◌+◌, Bool, true, false, cond, not, List, [], ◌∷◌, ◌++◌, length, map, filter, refl, sym, ap, ◌∙◌, subst}
use Rattle.std.specs.Prelude.{Contains}
use Rattle.std.specs.declared.cmp.Ordering.{Ordering}
use Rattle.std.specs.declared.cmp.Ordering.TheVariants.{Less}
use Rattle.std.specs.List.{AllByRecursion, count_by}
use Rattle.std.specs.List.Sorted.{IsStrictlySortedBy}
use Rattle.std.specs.Str.{bytes_eq}
use Rattle.std.proofs.lemmas.Bool.{cond-true, cond-false, false≢true}
use Rattle.std.proofs.lemmas.List.Elements.{filter-append}
use Rattle.std.proofs.lemmas.List.Sums.{length-filter, sum_by-cons}
use Rattle.covdata.specs.Row.{ItemData, Row}
use Rattle.covtable.specs.Ascending.{ascending}
use Rattle.covtable.specs.Clash.{Agree, Checksum, checksum_of_row, checksums_in}
use Rattle.covtable.specs.Content.{SectionData, content_at, content_of, section_of, section_with}
use Rattle.covtable.specs.Table.{Table, all_rows}
use Rattle.covtable.specs.Value.{Key, has_key, items_at, key_cmp, key_of_row, keys_of}
use Rattle.covtable.specs.Without.{is_of_test, sections_of_test, without_test}
use Rattle.covtable.proofs.Ascend.{IsExactOrder, In-ascending, In-to_ascending, ascending_sorted, one_sorted}
use Rattle.covtable.proofs.ContentsLists.{In-filter, In-unfilter, In-flat, In-unflat}
use Rattle.covtable.proofs.ContentsSections.{own_key}
use Rattle.covtable.proofs.Members.{Contains-from, In-from}
use Rattle.covtable.proofs.Orders.{keys_order}

-- ---- elements picked from lists

pub picked : {X : Type 0} (p : X → Bool) (x : X) (xs : List X) → p x ≡ true → filter p (x ∷ xs) ≡ x ∷ filter p xs
picked p x xs e = cond-true (p x) (x ∷ filter p xs) (filter p xs) e

pub passed_over : {X : Type 0} (p : X → Bool) (x : X) (xs : List X) → p x ≡ false → filter p (x ∷ xs) ≡ filter p xs
passed_over p x xs e = cond-false (p x) (x ∷ filter p xs) (filter p xs) e

pub All-picked : {X : Type 0} (P : X → Type 0) (p : X → Bool) (xs : List X) → AllByRecursion P xs → AllByRecursion P (filter p xs)
All-picked P p [] all = tt
All-picked {X} P p (x ∷ xs) all = by (p x) (All-picked P p xs all.1)
  where
    by : (b : Bool) → AllByRecursion P (filter p xs) → AllByRecursion P (cond b (x ∷ filter p xs) (filter p xs))
    by true rest = (all.0, rest)
    by false rest = rest

picked_sorted : {X : Type 0} (cmp : X → X → Ordering) (p : X → Bool) (xs : List X) → IsStrictlySortedBy cmp xs → IsStrictlySortedBy cmp (filter p xs)
unfolding IsStrictlySortedBy
picked_sorted cmp p [] sorted = tt
picked_sorted {X} cmp p (x ∷ xs) sorted = by (p x) (All-picked (λ y. cmp x y ≡ Less) p xs sorted.0) (picked_sorted cmp p xs sorted.1)
  where
    by : (b : Bool) → AllByRecursion (λ y. cmp x y ≡ Less) (filter p xs) → IsStrictlySortedBy cmp (filter p xs) → IsStrictlySortedBy cmp (cond b (x ∷ filter p xs) (filter p xs))
    by true following rest = (following, rest)
    by false following rest = rest

ascending_picked : {X : Type 0} {cmp : X → X → Ordering} → IsExactOrder cmp → (p : X → Bool) (xs : List X) → ascending cmp (filter p xs) ≡ filter p (ascending cmp xs)
ascending_picked {X} {cmp} o p xs =
    one_sorted o.total (ascending cmp (filter p xs)) (filter p (ascending cmp xs)) (ascending_sorted o.total (filter p xs)) (picked_sorted cmp p (ascending cmp xs) (ascending_sorted o.total xs))
    (λ z i. let own = In-unfilter p xs z (In-ascending o.exact z (filter p xs) i) in In-filter p (ascending cmp xs) z (In-to_ascending o.exact z xs own.0) own.1)
    (λ z i. let own = In-unfilter p (ascending cmp xs) z i in In-to_ascending o.exact z (filter p xs) (In-filter p xs z (In-ascending o.exact z xs own.0) own.1))

map_picked : {X Y : Type 0} (f : X → Y) (p : Y → Bool) (xs : List X) → map f (filter (λ x. p (f x)) xs) ≡ filter p (map f xs)
map_picked f p [] = refl
map_picked {X} {Y} f p (x ∷ xs) = by (p (f x)) (map_picked f p xs)
  where
    by : (b : Bool) → map f (filter (λ y. p (f y)) xs) ≡ filter p (map f xs) → map f (cond b (x ∷ filter (λ y. p (f y)) xs) (filter (λ y. p (f y)) xs)) ≡ cond b (f x ∷ filter p (map f xs)) (filter p (map f xs))
    by true rest = ap (λ (ys : List Y). f x ∷ ys) rest
    by false rest = rest

-- picking by `p` and then by a stricter condition `a` gives what `a` alone picks
picked_again : {X : Type 0} (a p : X → Bool) → ((x : X) → a x ≡ true → p x ≡ true) → (xs : List X) → filter a (filter p xs) ≡ filter a xs
picked_again a p more [] = refl
picked_again {X} a p more (x ∷ xs) = by (p x) refl (a x) refl (picked_again a p more xs)
  where
    by : (b : Bool) → p x ≡ b → (c : Bool) → a x ≡ c → filter a (filter p xs) ≡ filter a xs → filter a (filter p (x ∷ xs)) ≡ filter a (x ∷ xs)
    by true is c of rest = ap (filter a) (picked p x xs is) ∙ ap (λ (ys : List X). cond (a x) (x ∷ ys) ys) rest
    by false is true of rest = absurd (false≢true (sym is ∙ more x of))
    by false is false of rest = ap (filter a) (passed_over p x xs is) ∙ rest ∙ sym (passed_over a x xs of)

picked_none : {X : Type 0} (a p : X → Bool) → ((x : X) → a x ≡ true → p x ≡ false) → (xs : List X) → filter a (filter p xs) ≡ []
picked_none a p apart [] = refl
picked_none {X} a p apart (x ∷ xs) = by (p x) refl (a x) refl (picked_none a p apart xs)
  where
    by : (b : Bool) → p x ≡ b → (c : Bool) → a x ≡ c → filter a (filter p xs) ≡ [] → filter a (filter p (x ∷ xs)) ≡ []
    by true is true of rest = absurd (false≢true (sym (apart x of) ∙ is))
    by true is false of rest = ap (filter a) (picked p x xs is) ∙ passed_over a x (filter p xs) of ∙ rest
    by false is c of rest = ap (filter a) (passed_over p x xs is) ∙ rest

pub count_mapped : {X Y : Type 0} (p : Y → Bool) (f : X → Y) (xs : List X) → count_by p (map f xs) ≡ count_by (λ x. p (f x)) xs
count_mapped p f [] = refl
count_mapped p f (x ∷ xs) =
    let own = count_mapped p f xs in
    sum_by-cons (λ y. cond {A = ℕ} (p y) 1 0) (f x) (map f xs) ∙ ap (λ (n : ℕ). cond {A = ℕ} (p (f x)) 1 0 + n) own ∙ sym (sum_by-cons (λ y. cond {A = ℕ} (p (f y)) 1 0) x xs)

-- ---- rows picked by their keys

module _ (q : Key → Bool) where
  abbrev own_rows : List Row → List Row
  own_rows rows = filter (λ row. q (key_of_row row)) rows

  keys_picked : (rows : List Row) → keys_of (own_rows rows) ≡ filter q (keys_of rows)
  keys_picked rows = ap (ascending key_cmp) (map_picked key_of_row q rows) ∙ ascending_picked keys_order q (map key_of_row rows)

  own_items : (key : Key) (rows : List Row) → q key ≡ true → items_at key (own_rows rows) ≡ items_at key rows
  own_items key rows e =
      ap (map (λ (row : Row). row.item)) (picked_again (has_key key) (λ row. q (key_of_row row)) (λ row own. ap q (own_key key row own) ∙ e) rows)

  no_items : (key : Key) (rows : List Row) → q key ≡ false → items_at key (own_rows rows) ≡ []
  no_items key rows e = ap (map (λ (row : Row). row.item)) (picked_none (has_key key) (λ row. q (key_of_row row)) (λ row own. ap q (own_key key row own) ∙ e) rows)

  sections_picked : (rows : List Row) (keys : List Key) → map (section_of (own_rows rows)) (filter q keys) ≡ filter (λ s. q s.key) (map (section_of rows) keys)
  sections_picked rows [] = refl
  sections_picked rows (key ∷ keys) = by (q key) refl (sections_picked rows keys)
    where
      by : (b : Bool) → q key ≡ b → map (section_of (own_rows rows)) (filter q keys) ≡ filter (λ s. q s.key) (map (section_of rows) keys)
          → map (section_of (own_rows rows)) (filter q (key ∷ keys)) ≡ filter (λ s. q s.key) (map (section_of rows) (key ∷ keys))
      by true is rest =
          ap (map (section_of (own_rows rows))) (picked q key keys is)
          ∙ ap (λ (items : List ItemData). section_with key items ∷ map (section_of (own_rows rows)) (filter q keys)) (own_items key rows is)
          ∙ ap (λ (sections : List SectionData). section_of rows key ∷ sections) rest
          ∙ sym (picked (λ s. q s.key) (section_of rows key) (map (section_of rows) keys) is)
      by false is rest = ap (map (section_of (own_rows rows))) (passed_over q key keys is) ∙ rest ∙ sym (passed_over (λ s. q s.key) (section_of rows key) (map (section_of rows) keys) is)

  pub content_picked : (rows : List Row) → content_of (own_rows rows) ≡ filter (λ s. q s.key) (content_of rows)
  content_picked rows = ap (map (section_of (own_rows rows))) (keys_picked rows) ∙ sections_picked rows (keys_of rows)

  count_picked : (rows : List Row) → length (keys_of (own_rows rows)) ≡ count_by (λ s. q s.key) (content_of rows)
  count_picked rows = ap length (keys_picked rows) ∙ length-filter q (keys_of rows) ∙ sym (count_mapped (λ (s : SectionData). q s.key) (section_of rows) (keys_of rows))

-- ---- a table without a test

abbrev pub rows_without : List ℕ → List Row → List Row
rows_without test rows = filter (λ row. not (is_of_test test row)) rows

module _ (test : List ℕ) where
  pub rows_left : (table : Table) → all_rows (without_test test table) ≡ rows_without test (all_rows table)
  rows_left [] = refl
  rows_left (rows ∷ table) =
      ap (λ (more : List Row). filter (λ row. not (is_of_test test row)) rows ++ more) (rows_left table) ∙ sym (filter-append (λ row. not (is_of_test test row)) rows (all_rows table))

  pub items_of_others : (key : Key) (rows : List Row) → bytes_eq key.test test ≡ false → items_at key (rows_without test rows) ≡ items_at key rows
  items_of_others key rows e = own_items (λ key. not (bytes_eq key.test test)) key rows (ap not e)

  pub items_of_test : (key : Key) (rows : List Row) → bytes_eq key.test test ≡ true → items_at key (rows_without test rows) ≡ []
  items_of_test key rows e = no_items (λ key. not (bytes_eq key.test test)) key rows (ap not e)

  pub content_left : (rows : List Row) → content_of (rows_without test rows) ≡ filter (λ s. not (bytes_eq s.key.test test)) (content_of rows)
  content_left rows = content_picked (λ key. not (bytes_eq key.test test)) rows

  pub content_without : (table : Table) → content_at (without_test test table) ≡ filter (λ s. not (bytes_eq s.key.test test)) (content_at table)
  content_without table = ap content_of (rows_left table) ∙ content_left (all_rows table)

  pub sections_counted : (table : Table) → sections_of_test test table ≡ count_by (λ s. bytes_eq s.key.test test) (content_at table)
  sections_counted table = count_picked (λ key. bytes_eq key.test test) (all_rows table)

  -- ---- the checksums that are left were there before

  pub held_before : (rows : List Row) (checksum : Checksum) → Contains (checksums_in (rows_without test rows)) checksum → Contains (checksums_in rows) checksum
  held_before rows checksum i =
      let row = In-unflat checksum_of_row (rows_without test rows) checksum (In-from (checksums_in (rows_without test rows)) checksum i) in
      let own = In-unfilter (λ r. not (is_of_test test r)) rows row.0 row.1 in
      Contains-from (checksums_in rows) checksum (In-flat checksum_of_row rows row.0 checksum own.0 row.2)

-- if checksums agree, they still do after a test is dropped
pub agree_left : (table : Table) (test : List ℕ) → Agree (checksums_in (all_rows table)) → Agree (checksums_in (all_rows (without_test test table)))
agree_left table test agree a b i j =
    let before : (sum : Checksum) → Contains (checksums_in (all_rows (without_test test table))) sum → Contains (checksums_in (all_rows table)) sum =
    λ sum among. held_before test (all_rows table) sum (subst (λ (rows : List Row). Contains (checksums_in rows) sum) (rows_left test table) among) in
    agree a b (before a i) (before b j)

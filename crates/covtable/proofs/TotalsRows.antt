-- The totals of the content are counts over rows: what some test of a file has, some row of the file has.
use Rattle.std.proofs.Common.{◌≡◌, ℕ, zero, suc, ◌+◌, Bool, true, false, cond, ◌||◌, nat_lt, List, [], ◌∷◌, map, filter, refl, sym, ap, ◌∙◌, subst, arith}
use Rattle.std.specs.declared.cmp.Ordering.{Ordering}
use Rattle.std.specs.List.{flat_map, list_any, sum_by}
use Rattle.std.specs.Str.{bytes_eq}
use Rattle.std.proofs.lemmas.Bool.{and_from, and_parts, lt-ltb, or_left}
use Rattle.std.proofs.lemmas.List.Folds.{list_any-append}
use Rattle.std.proofs.lemmas.List.Sums.{sum_by-cons}
use Rattle.std.proofs.lemmas.Slice.Eq.{bytes_eq-Decides}
use Rattle.covdata.specs.Row.{ItemData, Row}
use Rattle.covtable.specs.Ascending.{ascending}
use Rattle.covtable.specs.Content.{SectionData, section_of, content_of}
use Rattle.covtable.specs.Totals.{files_in, own_sections}
use Rattle.covtable.specs.TotalsSteps.{files_of, has_file, items_of_file}
use Rattle.covtable.specs.Value.{Key, key_of_row, keys_of, has_key, items_at}
use Rattle.covtable.proofs.Ascend.{In-ascending, In-to_ascending, IsExactOrder}
use Rattle.covtable.proofs.Members.{In, In-map, In-unmap}
use Rattle.covtable.proofs.Orders.{keys_order, names_order}
use Rattle.covtable.proofs.TotalsFiles.{file_of_key, key_of_file}
use Rattle.covtable.proofs.ContentsKinds.{same_ascending}
use Rattle.covtable.proofs.ContentsLists.{In-filter, In-flat, In-unfilter, In-unflat, any_from_in, any_members, in_from_any, same_truth}

-- ---- lists with the same elements

abbrev pub SameMembers : {X : Type 0} → List X → List X → Type 0
SameMembers {X} xs ys = ((x : X) → In x xs → In x ys) × ((x : X) → In x ys → In x xs)

pub any_same_members : {X : Type 0} (p : X → Bool) (xs ys : List X) → SameMembers xs ys → list_any p xs ≡ list_any p ys
any_same_members p xs ys same = any_members p xs ys same.0 same.1

ascending_same_members : {X : Type 0} {cmp : X → X → Ordering} → IsExactOrder cmp → (xs ys : List X) → SameMembers xs ys → ascending cmp xs ≡ ascending cmp ys
ascending_same_members {X} {cmp} o xs ys same = same_ascending cmp o xs ys same.0 same.1

-- ---- the items of a file's keys are those of the file

abbrev keys_of_file : List ℕ → List Row → List Key
keys_of_file file rows = filter (λ k. bytes_eq k.file file) (keys_of rows)

abbrev items_of_keys : List Row → List Key → List ItemData
items_of_keys rows keys = flat_map (λ k. items_at k rows) keys

items_of_file_keys : (file : List ℕ) (rows : List Row) → SameMembers (items_of_keys rows (keys_of_file file rows)) (items_of_file file rows)
items_of_file_keys file rows = (to, from)
  where
    to : (item : ItemData) → In item (items_of_keys rows (keys_of_file file rows)) → In item (items_of_file file rows)
    to item i =
        let at_key = In-unflat (λ (k : Key). items_at k rows) (keys_of_file file rows) item i in
        let own = In-unfilter (λ (k : Key). bytes_eq k.file file) (keys_of rows) at_key.0 at_key.1 in
        let row = In-unmap (λ (r : Row). r.item) (filter (has_key at_key.0) rows) item at_key.2 in
        let of_key = In-unfilter (has_key at_key.0) rows row.0 row.1 in
        let same : at_key.0.file ≡ file = (bytes_eq-Decides at_key.0.file file).0 own.1 in
        let has : bytes_eq row.0.file file ≡ true = subst (λ (name : List ℕ). bytes_eq row.0.file name ≡ true) same (and_parts (bytes_eq row.0.file at_key.0.file) (bytes_eq row.0.test at_key.0.test) of_key.1).0 in
        subst (λ (x : ItemData). In x (items_of_file file rows)) row.2 (In-map (λ (r : Row). r.item) (filter (has_file file) rows) row.0 (In-filter (has_file file) rows row.0 of_key.0 has))

    from : (item : ItemData) → In item (items_of_file file rows) → In item (items_of_keys rows (keys_of_file file rows))
    from item i =
        let row = In-unmap (λ (r : Row). r.item) (filter (has_file file) rows) item i in
        let of_file = In-unfilter (has_file file) rows row.0 row.1 in
        let key = key_of_row row.0 in
        let there : In key (keys_of rows) = In-to_ascending keys_order.exact key (map key_of_row rows) (In-map key_of_row rows row.0 of_file.0) in
        let has : has_key key row.0 ≡ true = and_from (bytes_eq row.0.file row.0.file) (bytes_eq row.0.test row.0.test) ((bytes_eq-Decides row.0.file row.0.file).1 refl) ((bytes_eq-Decides row.0.test row.0.test).1 refl) in
        In-flat (λ (k : Key). items_at k rows) (keys_of_file file rows) key item
        (In-filter (λ (k : Key). bytes_eq k.file file) (keys_of rows) key there of_file.1)
        (subst (λ (x : ItemData). In x (items_at key rows)) row.2 (In-map (λ (r : Row). r.item) (filter (has_key key) rows) row.0 (In-filter (has_key key) rows row.0 of_file.0 has)))

-- ---- the sections of a file

filter-map : {X Y : Type 0} (p : Y → Bool) (f : X → Y) (xs : List X) → filter p (map f xs) ≡ map f (filter (λ x. p (f x)) xs)
filter-map p f [] = refl
filter-map {X} {Y} p f (x ∷ xs) = by (p (f x)) (filter-map p f xs)
  where
    by : (b : Bool) → filter p (map f xs) ≡ map f (filter (λ z. p (f z)) xs)
        → cond b (f x ∷ filter p (map f xs)) (filter p (map f xs)) ≡ map f (cond b (x ∷ filter (λ z. p (f z)) xs) (filter (λ z. p (f z)) xs))
    by true rest = ap (λ (ys : List Y). f x ∷ ys) rest
    by false rest = rest

sections_of_keys : (file : List ℕ) (rows : List Row) → own_sections file (content_of rows) ≡ map (section_of rows) (keys_of_file file rows)
sections_of_keys file rows = filter-map (λ (s : SectionData). bytes_eq s.key.file file) (section_of rows) (keys_of rows)

-- ---- the files

files_of_content : (rows : List Row) → SameMembers (map (λ (s : SectionData). s.key.file) (content_of rows)) (map (λ (row : Row). row.file) rows)
files_of_content rows = (to, from)
  where
    to : (file : List ℕ) → In file (map (λ (s : SectionData). s.key.file) (content_of rows)) → In file (map (λ (row : Row). row.file) rows)
    to file i =
        let section = In-unmap (λ (s : SectionData). s.key.file) (content_of rows) file i in
        let key = In-unmap (section_of rows) (keys_of rows) section.0 section.1 in
        subst (λ (name : List ℕ). In name (map (λ (row : Row). row.file) rows)) (ap (λ (s : SectionData). s.key.file) key.2 ∙ section.2)
        (file_of_key rows key.0 (In-ascending keys_order.exact key.0 (map key_of_row rows) key.1))

    from : (file : List ℕ) → In file (map (λ (row : Row). row.file) rows) → In file (map (λ (s : SectionData). s.key.file) (content_of rows))
    from file i =
        let key = key_of_file rows file i in
        subst (λ (name : List ℕ). In name (map (λ (s : SectionData). s.key.file) (content_of rows))) key.2
        (In-map (λ (s : SectionData). s.key.file) (content_of rows) (section_of rows key.0)
        (In-map (section_of rows) (keys_of rows) key.0 (In-to_ascending keys_order.exact key.0 (map key_of_row rows) key.1)))

pub files_are : (rows : List Row) → files_in (content_of rows) ≡ files_of rows
files_are rows = ascending_same_members names_order (map (λ (s : SectionData). s.key.file) (content_of rows)) (map (λ (row : Row). row.file) rows) (files_of_content rows)

-- ---- the points of one kind

module _ {X : Type 0} {cmp : X → X → Ordering} (o : IsExactOrder cmp) (point : ItemData → List X) (points : SectionData → List X)
    (reads : (rows : List Row) (key : Key) → points (section_of rows key) ≡ ascending cmp (flat_map point (items_at key rows))) (file : List ℕ) (rows : List Row) where
  points_of_keys : (keys : List Key) → SameMembers (flat_map points (map (section_of rows) keys)) (flat_map point (items_of_keys rows keys))
  points_of_keys keys = (to, from)
    where
      to : (x : X) → In x (flat_map points (map (section_of rows) keys)) → In x (flat_map point (items_of_keys rows keys))
      to x i =
          let section = In-unflat points (map (section_of rows) keys) x i in
          let key = In-unmap (section_of rows) keys section.0 section.1 in
          let own : In x (ascending cmp (flat_map point (items_at key.0 rows))) = subst (In x) (reads rows key.0) (subst (λ (s : SectionData). In x (points s)) (sym key.2) section.2) in
          let item = In-unflat point (items_at key.0 rows) x (In-ascending o.exact x (flat_map point (items_at key.0 rows)) own) in
          In-flat point (items_of_keys rows keys) item.0 x (In-flat (λ (k : Key). items_at k rows) keys key.0 item.0 key.1 item.1) item.2

      from : (x : X) → In x (flat_map point (items_of_keys rows keys)) → In x (flat_map points (map (section_of rows) keys))
      from x i =
          let item = In-unflat point (items_of_keys rows keys) x i in
          let key = In-unflat (λ (k : Key). items_at k rows) keys item.0 item.1 in
          let own : In x (points (section_of rows key.0)) = subst (In x) (sym (reads rows key.0)) (In-to_ascending o.exact x (flat_map point (items_at key.0 rows)) (In-flat point (items_at key.0 rows) item.0 x key.2 item.2)) in
          In-flat points (map (section_of rows) keys) (section_of rows key.0) x (In-map (section_of rows) keys key.0 key.1) own

  points_of_items : (items others : List ItemData) → SameMembers items others → (x : X) → In x (flat_map point items) → In x (flat_map point others)
  points_of_items items others same x i = let item = In-unflat point items x i in In-flat point others item.0 x (same.0 item.0 item.1) item.2

  -- the points found in the sections of a file are those of its rows
  pub points_found : ascending cmp (flat_map points (own_sections file (content_of rows))) ≡ ascending cmp (flat_map point (items_of_file file rows))
  points_found =
      let keys = keys_of_file file rows in
      let same = items_of_file_keys file rows in
      let by_keys = points_of_keys keys in
      ap (λ (own : List SectionData). ascending cmp (flat_map points own)) (sections_of_keys file rows)
      ∙ ascending_same_members o (flat_map points (map (section_of rows) keys)) (flat_map point (items_of_file file rows)) (
        λ x i. points_of_items (items_of_keys rows keys) (items_of_file file rows) same x (by_keys.0 x i),
        λ x i. by_keys.1 x (points_of_items (items_of_file file rows) (items_of_keys rows keys) (same.1, same.0) x i),
      )

-- ---- the points that are hit

module _ (is_hit : SectionData → Bool) (hits : ItemData → Bool) (reads : (rows : List Row) (key : Key) → is_hit (section_of rows key) ≡ list_any hits (items_at key rows)) (file : List ℕ) (rows : List Row) where
  hit_in_keys : (keys : List Key) → list_any is_hit (map (section_of rows) keys) ≡ list_any hits (items_of_keys rows keys)
  hit_in_keys [] = refl
  hit_in_keys (key ∷ keys) =
      ap (λ (b : Bool). b || list_any is_hit (map (section_of rows) keys)) (reads rows key)
      ∙ ap (λ (b : Bool). list_any hits (items_at key rows) || b) (hit_in_keys keys)
      ∙ sym (list_any-append hits (items_at key rows) (items_of_keys rows keys))

  -- a point is hit in some section of a file exactly if some row of the file hits it
  pub hit_in_file : list_any is_hit (own_sections file (content_of rows)) ≡ list_any hits (items_of_file file rows)
  hit_in_file =
      ap (list_any is_hit) (sections_of_keys file rows) ∙ hit_in_keys (keys_of_file file rows)
      ∙ any_same_members hits (items_of_keys rows (keys_of_file file rows)) (items_of_file file rows) (items_of_file_keys file rows)

-- in one section, a point has a value above 0 exactly if an item hits it
module _ {X Y : Type 0} {cmp : X → X → Ordering} (o : IsExactOrder cmp) (point : ItemData → List X) (at : X → Y) (test : Y → Bool) (x : X) (hits : ItemData → Bool) (items : List ItemData) where
  pub hit_in_section : ((y : X) → test (at y) ≡ true → list_any hits items ≡ true) → (list_any hits items ≡ true → test (at x) ≡ true) → ((item : ItemData) → hits item ≡ true → In x (point item))
      → list_any test (map at (ascending cmp (flat_map point items))) ≡ list_any hits items
  hit_in_section reads tests speaks =
      let all = ascending cmp (flat_map point items) in
      same_truth (list_any test (map at all)) (list_any hits items)
      (λ h. let value = in_from_any test (map at all) h in
      let source = In-unmap at all value.0 value.1 in
      reads source.0 (ap test source.2 ∙ value.2))
      (λ h. let item = in_from_any hits items h in
      any_from_in test (map at all) (at x)
      (In-map at all x (In-to_ascending o.exact x (flat_map point items) (In-flat point items item.0 x item.1 (speaks item.0 item.2)))) (tests h))

-- a sum is above 0 exactly if one of its numbers is
above_either : (a b : ℕ) → nat_lt 0 (a + b) ≡ (nat_lt 0 a || nat_lt 0 b)
above_either zero b = let is : 0 + b ≡ b = omega arith in ap (nat_lt 0) is
above_either (suc a) b = lt-ltb 0 (suc a + b) (omega arith) ∙ sym (or_left (nat_lt 0 (suc a)) (nat_lt 0 b) (lt-ltb 0 (suc a) (omega arith)))

pub sum_above : {X : Type 0} (f : X → ℕ) (xs : List X) → nat_lt 0 (sum_by f xs) ≡ list_any (λ x. nat_lt 0 (f x)) xs
sum_above f [] = refl
sum_above f (x ∷ xs) = ap (nat_lt 0) (sum_by-cons f x xs) ∙ above_either (f x) (sum_by f xs) ∙ ap (λ (b : Bool). nat_lt 0 (f x) || b) (sum_above f xs)

pub any_flat : {X Y : Type 0} (p : Y → Bool) (f : X → List Y) (xs : List X) → list_any p (flat_map f xs) ≡ list_any (λ x. list_any p (f x)) xs
any_flat p f [] = refl
any_flat p f (x ∷ xs) = list_any-append p (f x) (flat_map f xs) ∙ ap (λ (b : Bool). list_any p (f x) || b) (any_flat p f xs)

pub any_agree : {X : Type 0} (p q : X → Bool) → ((x : X) → p x ≡ q x) → (xs : List X) → list_any p xs ≡ list_any q xs
any_agree p q same [] = refl
any_agree p q same (x ∷ xs) = ap (λ (b : Bool). b || list_any p xs) (same x) ∙ ap (λ (b : Bool). q x || b) (any_agree p q same xs)

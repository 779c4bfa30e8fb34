-- How many different points rows have, counted at the last row of each point.
use Rattle.std.proofs.Common.{◌≡◌, ℕ, ◌+◌, Bool, true, false, ◌&&◌, ◌||◌, not, cond, List, [], ◌∷◌, ◌++◌, length, map, filter, refl, sym, ap, ◌∙◌, subst, inl, inr, arith}
use Rattle.std.specs.Bool.{Decides}
use Rattle.std.specs.Cmp.{IsEquivalence}
use Rattle.std.specs.List.{IsDistinct, list_any}
use Rattle.std.specs.Set.{distinct_count, unique_keys, is_member}
use Rattle.std.specs.Str.{bytes_eq}
use Rattle.std.proofs.lemmas.Bool.{and_from, and_parts, false≢true}
use Rattle.std.proofs.lemmas.Map.Made.{length-from_keys}
use Rattle.std.proofs.lemmas.Slice.Eq.{bytes_eq-Decides}
use Rattle.covdata.specs.Points.{is_hit}
use Rattle.covdata.specs.Row.{ItemData, Row}
use Rattle.covtable.specs.Counted.{Kind, FilePoint, in_file, is_same, points_of, is_hit_in_a_test, found, hit}
use Rattle.covtable.specs.Value.{Key, has_key, items_at, key_of_row}
use Rattle.covtable.proofs.ContentsChecksums.{own_row}
use Rattle.covtable.proofs.ContentsLists.{In-filter, In-flat, In-unfilter, In-unflat, any_from_in, any_members, in_from_any, same_truth}
use Rattle.covtable.proofs.ContentsPoints.{unless}
use Rattle.covtable.proofs.Members.{In, All-from, In-map, In-unmap}
use Rattle.covrows.specs.Counted.{count_last, has_kind, picks, same_point, same_points, takes}
use Rattle.covrows.specs.declared.selection.Kind as code

-- ---- lists with the same elements have as many different ones

module _ {X : Type 0} (e : X → X → Bool) (decides : (x y : X) → Decides (e x y) (x ≡ y)) where
  equivalence : IsEquivalence e
  equivalence = record {
    refl = λ x. (decides x x).1 refl;
    symm = λ x y. same_truth (e x y) (e y x) (λ h. (decides y x).1 (sym ((decides x y).0 h))) (λ h. (decides x y).1 (sym ((decides y x).0 h)));
    congr = λ x y z h. ap (λ (w : X). e w z) ((decides x y).0 h);
  }

  In-unique : (xs : List X) (y : X) → In y (unique_keys e xs) → In y xs
  In-unique [] y i = i
  In-unique (x ∷ xs) y i = by (is_member e xs x) (λ j. In-unique xs y j) i
    where
      by : (b : Bool) → (In y (unique_keys e xs) → In y xs) → In y (cond b (unique_keys e xs) (x ∷ unique_keys e xs)) → In y (x ∷ xs)
      by true others i = inr (others i)
      by false others (inl is) = inl is
      by false others (inr i) = inr (others i)

  In-to_unique : (xs : List X) (y : X) → In y xs → In y (unique_keys e xs)
  In-to_unique [] y i = i
  In-to_unique (x ∷ xs) y i = by (is_member e xs x) refl (λ z j. In-to_unique xs z j) i
    where
      by : (b : Bool) → list_any (e x) xs ≡ b → ((z : X) → In z xs → In z (unique_keys e xs)) → In y (x ∷ xs) → In y (cond b (unique_keys e xs) (x ∷ unique_keys e xs))
      by true m others (inl is) =
          let found = in_from_any (e x) xs m in
          subst (λ (z : X). In z (unique_keys e xs)) (sym ((decides x found.0).0 found.2) ∙ is) (others found.0 found.1)
      by true m others (inr i) = others y i
      by false m others (inl is) = inl is
      by false m others (inr i) = inr (others y i)

  distinct_unique : (xs : List X) → IsDistinct e (unique_keys e xs)
  unfolding IsDistinct
  distinct_unique [] = tt
  distinct_unique (x ∷ xs) = by (is_member e xs x) refl (distinct_unique xs)
    where
      by : (b : Bool) → list_any (e x) xs ≡ b → IsDistinct e (unique_keys e xs) → IsDistinct e (cond b (unique_keys e xs) (x ∷ unique_keys e xs))
      by true m rest = rest
      by false m rest = (
        All-from (λ y. e x y ≡ false) (unique_keys e xs) (λ y i. unless (e x y) (λ h. false≢true (sym m ∙ any_from_in (e x) xs y (In-unique xs y i) h))),
        rest,
      )

  same_count : (xs ys : List X) → ((x : X) → In x xs → In x ys) → ((x : X) → In x ys → In x xs) → distinct_count e xs ≡ distinct_count e ys
  same_count xs ys there back =
      length-from_keys equivalence (unique_keys e xs) ys (distinct_unique xs)
      (λ q. any_members (e q) (unique_keys e xs) ys (λ x i. there x (In-unique xs x i)) (λ x i. In-to_unique xs x (back x i)))

-- ---- one kind of points

-- the rows' points of a kind, in which way the code tells them
pub record IsKindOf {X : Type 0} (kind : Kind X) (own : code.Kind) (hits : X → ItemData → Bool) : Type 0 where
  pub decides : (a b : X) → Decides (kind.same a b) (a ≡ b)
  pub none : (item : ItemData) → has_kind own item ≡ false → kind.point item ≡ []
  pub some : (item : ItemData) → has_kind own item ≡ true → (x : X) × (kind.point item ≡ x ∷ [])
  pub same : (a b : ItemData) (x y : X) → kind.point a ≡ x ∷ [] → kind.point b ≡ y ∷ [] → same_point a b ≡ kind.same x y
  pub above : (x : X) (items : List ItemData) → kind.is_above x items ≡ list_any (hits x) items
  pub speaks : (x : X) (item : ItemData) → hits x item ≡ true → In x (kind.point item) × (is_hit item ≡ true)
  pub hit_by : (x : X) (item : ItemData) → In x (kind.point item) → is_hit item ≡ true → hits x item ≡ true

module _ {X : Type 0} (kind : Kind X) (own : code.Kind) (hits : X → ItemData → Bool) (is : IsKindOf kind own hits) where
  same_decides : (a b : FilePoint X) → Decides (is_same kind a b) (a ≡ b)
  same_decides a b = (
    λ e. let both = and_parts (bytes_eq a.file b.file) (kind.same a.point b.point) e in
        λ i. record { file = (bytes_eq-Decides a.file b.file).0 both.0 i; point = (is.decides a.point b.point).0 both.1 i },
    λ e. and_from (bytes_eq a.file b.file) (kind.same a.point b.point) ((bytes_eq-Decides a.file b.file).1 (ap (λ (p : FilePoint X). p.file) e)) ((is.decides a.point b.point).1 (ap (λ (p : FilePoint X). p.point) e)),
  )

  module _ (p : Row → Bool) where
    -- the points of the rows that `p` takes
    abbrev taken : List Row → List (FilePoint X)
    taken rows = points_of kind (filter p rows)

    abbrev counts : Row → Bool
    counts row = p row && has_kind own row.item

    comes_again : (row : Row) (x : X) → kind.point row.item ≡ x ∷ [] → (rows : List Row) → list_any (λ other. counts other && same_points row other) rows ≡ list_any (is_same kind (in_file row.file x)) (taken rows)
    comes_again row x point [] = refl
    comes_again row x point (other ∷ rows) = by (p other) (has_kind own other.item) refl (comes_again row x point rows)
      where
        by : (b c : Bool) → has_kind own other.item ≡ c → list_any (λ other. counts other && same_points row other) rows ≡ list_any (is_same kind (in_file row.file x)) (taken rows)
            → ((b && c && same_points row other) || list_any (λ other. counts other && same_points row other) rows) ≡ list_any (is_same kind (in_file row.file x)) (points_of kind (cond b (other ∷ filter p rows) (filter p rows)))
        by false c has rest = rest
        by true false has rest = rest ∙ sym (ap (λ (xs : List X). list_any (is_same kind (in_file row.file x)) (map (in_file other.file) xs ++ taken rows)) (is.none other.item has))
        by true true has rest =
            let y = is.some other.item has in
            ap (λ (b : Bool). (bytes_eq row.file other.file && b) || list_any (λ other. counts other && same_points row other) rows) (is.same row.item other.item x y.0 point y.1)
            ∙ ap (λ (b : Bool). is_same kind (in_file row.file x) (in_file other.file y.0) || b) rest
            ∙ sym (ap (λ (xs : List X). list_any (is_same kind (in_file row.file x)) (map (in_file other.file) xs ++ taken rows)) y.1)

    none_more : (n : ℕ) → 0 + n ≡ n
    none_more n = omega arith

    pub counted : (rows : List Row) → count_last counts rows ≡ distinct_count (is_same kind) (taken rows)
    counted [] = refl
    counted (row ∷ rows) = by (p row) (has_kind own row.item) refl (counted rows)
      where
        one : (m : Bool) (n : ℕ) (x : FilePoint X) (xs : List (FilePoint X)) → n ≡ length xs → cond (not m) 1 0 + n ≡ length (cond m xs (x ∷ xs))
        one true n x xs same = omega (arith, same)
        one false n x xs same = omega (arith, same)

        by : (b c : Bool) → has_kind own row.item ≡ c → count_last counts rows ≡ distinct_count (is_same kind) (taken rows)
            → cond (b && c && not (list_any (λ other. counts other && same_points row other) rows)) 1 0 + count_last counts rows ≡ distinct_count (is_same kind) (points_of kind (cond b (row ∷ filter p rows) (filter p rows)))
        by false c has rest = omega (arith, rest)
        by true false has rest = none_more (count_last counts rows) ∙ rest ∙ sym (ap (λ (xs : List X). distinct_count (is_same kind) (map (in_file row.file) xs ++ taken rows)) (is.none row.item has))
        by true true has rest =
            let x = is.some row.item has in
            ap (λ (m : Bool). cond (not m) 1 0 + count_last counts rows) (comes_again row x.0 x.1 rows)
            ∙ one (is_member (is_same kind) (taken rows) (in_file row.file x.0)) (count_last counts rows) (in_file row.file x.0) (unique_keys (is_same kind) (taken rows)) rest
            ∙ sym (ap (λ (xs : List X). distinct_count (is_same kind) (map (in_file row.file) xs ++ taken rows)) x.1)

  -- ---- the points found and hit of the rows of some keys

  module _ (q : Key → Bool) (rows : List Row) where
    abbrev own_rows : List Row
    own_rows = filter (λ row. q (key_of_row row)) rows

    pub found_last : count_last (takes q own false) rows ≡ found kind own_rows
    found_last =
        counted (picks q false) rows
        ∙ same_count (is_same kind) same_decides (taken (picks q false) rows) (points_of kind own_rows)
        (λ x i. let row = In-unflat (λ (row : Row). map (in_file row.file) (kind.point row.item)) (filter (picks q false) rows) x i in
        let from = In-unfilter (picks q false) rows row.0 row.1 in
        In-flat (λ (row : Row). map (in_file row.file) (kind.point row.item)) own_rows row.0 x (In-filter (λ row. q (key_of_row row)) rows row.0 from.0 (and_parts (q (key_of_row row.0)) true from.1).0) row.2)
        (λ x i. let row = In-unflat (λ (row : Row). map (in_file row.file) (kind.point row.item)) own_rows x i in
        let from = In-unfilter (λ row. q (key_of_row row)) rows row.0 row.1 in
        In-flat (λ (row : Row). map (in_file row.file) (kind.point row.item)) (filter (picks q false) rows) row.0 x (In-filter (picks q false) rows row.0 from.0 (and_from (q (key_of_row row.0)) true from.1 refl)) row.2)

    abbrev is_hit_point : FilePoint X → Bool
    is_hit_point p = is_hit_in_a_test kind own_rows p

    hit_there : (x : FilePoint X) → In x (taken (picks q true) rows) → In x (filter is_hit_point (points_of kind own_rows))
    hit_there x i =
        let row = In-unflat (λ (row : Row). map (in_file row.file) (kind.point row.item)) (filter (picks q true) rows) x i in
        let from = In-unfilter (picks q true) rows row.0 row.1 in
        let both = and_parts (q (key_of_row row.0)) (is_hit row.0.item) from.1 in
        let mine : In row.0 own_rows = In-filter (λ row. q (key_of_row row)) rows row.0 from.0 both.0 in
        let point = In-unmap (in_file row.0.file) (kind.point row.0.item) x row.2 in
        let items = items_at (key_of_row row.0) own_rows in
        let item : In row.0.item items = In-map (λ (r : Row). r.item) (filter (has_key (key_of_row row.0)) own_rows) row.0 (In-filter (has_key (key_of_row row.0)) own_rows row.0 mine (own_row row.0)) in
        let above : kind.is_above point.0 items ≡ true = is.above point.0 items ∙ any_from_in (hits point.0) items row.0.item item (is.hit_by point.0 row.0.item point.1 both.1) in
        let hit : is_hit_point (in_file row.0.file point.0) ≡ true =
        any_from_in (λ test. kind.is_above point.0 (items_at (record { file = row.0.file; test = test }) own_rows)) (map (λ (r : Row). r.test) own_rows) row.0.test (In-map (λ (r : Row). r.test) own_rows row.0 mine) above in
        In-filter is_hit_point (points_of kind own_rows) x
        (In-flat (λ (row : Row). map (in_file row.file) (kind.point row.item)) own_rows row.0 x mine row.2)
        (ap is_hit_point (sym point.2) ∙ hit)

    hit_back : (x : FilePoint X) → In x (filter is_hit_point (points_of kind own_rows)) → In x (taken (picks q true) rows)
    hit_back x i =
        let hit = (In-unfilter is_hit_point (points_of kind own_rows) x i).1 in
        let test = in_from_any (λ test. kind.is_above x.point (items_at (record { file = x.file; test = test }) own_rows)) (map (λ (r : Row). r.test) own_rows) hit in
        let key : Key = record { file = x.file; test = test.0 } in
        let item = in_from_any (hits x.point) (items_at key own_rows) (sym (is.above x.point (items_at key own_rows)) ∙ test.2) in
        let row = In-unmap (λ (r : Row). r.item) (filter (has_key key) own_rows) item.0 item.1 in
        let of_key = In-unfilter (has_key key) own_rows row.0 row.1 in
        let mine = In-unfilter (λ row. q (key_of_row row)) rows row.0 of_key.0 in
        let file : row.0.file ≡ x.file = (bytes_eq-Decides row.0.file x.file).0 (and_parts (bytes_eq row.0.file x.file) (bytes_eq row.0.test test.0) of_key.1).0 in
        let speaks = is.speaks x.point row.0.item (ap (hits x.point) row.2 ∙ item.2) in
        In-flat (λ (row : Row). map (in_file row.file) (kind.point row.item)) (filter (picks q true) rows) row.0 x
        (In-filter (picks q true) rows row.0 mine.0 (and_from (q (key_of_row row.0)) (is_hit row.0.item) mine.1 speaks.1))
        (subst (λ (f : List ℕ). In (in_file f x.point) (map (in_file row.0.file) (kind.point row.0.item))) file (In-map (in_file row.0.file) (kind.point row.0.item) x.point speaks.0))

    pub hit_last : count_last (takes q own true) rows ≡ hit kind own_rows
    hit_last = counted (picks q true) rows ∙ same_count (is_same kind) same_decides (taken (picks q true) rows) (filter is_hit_point (points_of kind own_rows)) hit_there hit_back

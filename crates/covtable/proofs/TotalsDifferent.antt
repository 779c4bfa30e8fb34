-- The totals count the different points of all rows, each in its file, and those that some test has above 0.
use Rattle.std.proofs.Common.{◌≡◌, ℕ, ◌≤◌, ◌==◌, Bool, true, false, cond, List, [], ◌∷◌, ◌++◌, length, map, filter, refl, sym, ap, ◌∙◌, subst, inl, inr, arith}
use Rattle.std.specs.Bool.{Decides}
use Rattle.std.specs.Cmp.{IsEquivalence, IsTotalOrder}
use Rattle.std.specs.Cmp.Lexicographic.{slice_cmp}
use Rattle.std.specs.declared.cmp.Ordering.{Ordering}
use Rattle.std.specs.declared.cmp.Ordering.TheVariants.{Less}
use Rattle.std.specs.List.{flat_map, list_any, sum_by, count_by, AllByRecursion, IsDistinct}
use Rattle.std.specs.List.Sorted.{IsStrictlySortedBy}
use Rattle.std.specs.Ordering.{nat_cmp}
use Rattle.std.specs.Str.{bytes_eq}
use Rattle.std.proofs.lemmas.Bool.{and_from, and_parts, eq-eqb, eqb-true}
use Rattle.std.proofs.lemmas.Cmp.{tied_itself}
use Rattle.std.proofs.lemmas.List.{length-map}
use Rattle.std.proofs.lemmas.List.Concat.{length-flat_map}
use Rattle.std.proofs.lemmas.List.Sums.{sum_by-cons, sum_by-append, sum_by-le-sum_by, length-filter, count_by-le-length}
use Rattle.std.proofs.lemmas.Map.Made.{length-from_keys}
use Rattle.std.proofs.lemmas.Slice.Eq.{bytes_eq-Decides}
use Rattle.covdata.specs.Points.{BranchPoint}
use Rattle.covdata.specs.Row.{ItemData, Row}
use Rattle.covtable.specs.Ascending.{ascending}
use Rattle.covtable.specs.Content.{SectionData, content_of}
use Rattle.covtable.specs.Counted.{Kind, FilePoint, lines, functions, branches, in_file, is_same, points_of, is_hit_in_a_test, found, hit}
use Rattle.covtable.specs.declared.totals.Totals.{Totals}
use Rattle.covtable.specs.Totals.{AreTotals, totals_of, over_files, files_in, own_sections, lines_found, is_line_hit, functions_found, is_function_hit, branches_found, is_branch_hit}
use Rattle.covtable.specs.TotalsSteps.{files_of, has_file, items_of_file, found_in, hit_in, is_hit_in, hits_line, hits_function, hits_branch, totals_over}
use Rattle.covtable.specs.Value.{Key, has_key, items_at}
use Rattle.covtable.proofs.Ascend.{IsExactOrder, ascending_sorted, In-ascending, In-to_ascending}
use Rattle.covtable.proofs.Members.{In, All-in, In-map, In-unmap, All-from, All-joined}
use Rattle.covtable.proofs.Orders.{lines_order, names_order, branches_order}
use Rattle.covtable.proofs.TotalsKinds.{totals_of_rows, sum_agree, count_agree, line_above, function_above, branch_above, same_branch, itself}
use Rattle.covtable.proofs.ContentsLists.{In-filter, In-flat, In-unfilter, In-unflat, any_from_in, in_from_any, same_truth}
use Rattle.covtable.proofs.TotalsRows.{SameMembers, any_same_members}
use Rattle.covtable.proofs.WithoutContent.{count_mapped}
use Rattle.covtable.proofs.ContentsPoints.{unless}

-- ---- no more are hit than found

hit_le_found : {X : Type 0} (points : List SectionData → List X) (hits : List SectionData → X → Bool) (sections : List SectionData)
    → over_files (λ own. count_by (hits own) (points own)) sections ≤ over_files (λ own. length (points own)) sections
hit_le_found points hits sections =
    sum_by-le-sum_by (λ file. count_by (hits (own_sections file sections)) (points (own_sections file sections))) (λ file. length (points (own_sections file sections))) (files_in sections)
    (λ file. count_by-le-length (hits (own_sections file sections)) (points (own_sections file sections)))

pub are_totals : (sections : List SectionData) → AreTotals (totals_of sections)
are_totals sections = record {
  lines = hit_le_found lines_found is_line_hit sections;
  functions = hit_le_found functions_found is_function_hit sections;
  branches = hit_le_found branches_found is_branch_hit sections;
}

-- ---- lists without repetitions

distinct_joined : {X : Type 0} (e : X → X → Bool) (xs ys : List X) → IsDistinct e xs → IsDistinct e ys → ((x y : X) → In x xs → In y ys → e x y ≡ false) → IsDistinct e (xs ++ ys)
unfolding IsDistinct
distinct_joined e [] ys left right apart = right
distinct_joined e (x ∷ xs) ys left right apart = (
  All-joined (λ y. e x y ≡ false) xs ys left.0 (All-from (λ y. e x y ≡ false) ys (λ y i. apart x y (inl refl) i)),
  distinct_joined e xs ys left.1 right (λ z y i j. apart z y (inr i) j),
)

distinct_if : {X : Type 0} (e : X → X → Bool) (x : X) (xs : List X) (b : Bool) → AllByRecursion (λ y. e x y ≡ false) xs → IsDistinct e xs → IsDistinct e (cond b (x ∷ xs) xs)
unfolding IsDistinct
distinct_if e x xs true apart rest = (apart, rest)
distinct_if e x xs false apart rest = rest

distinct_filter : {X : Type 0} (e : X → X → Bool) (p : X → Bool) (xs : List X) → IsDistinct e xs → IsDistinct e (filter p xs)
unfolding IsDistinct
distinct_filter e p [] d = tt
distinct_filter e p (x ∷ xs) d =
    distinct_if e x (filter p xs) (p x)
    (All-from (λ y. e x y ≡ false) (filter p xs) (λ y i. All-in (λ z. e x z ≡ false) xs y d.0 (In-unfilter p xs y i).0))
    (distinct_filter e p xs d.1)

same_filtered : {X : Type 0} (p : X → Bool) (xs ys : List X) → SameMembers xs ys → SameMembers (filter p xs) (filter p ys)
same_filtered p xs ys same = (
  λ x i. let own = In-unfilter p xs x i in In-filter p ys x (same.0 x own.0) own.1,
  λ x i. let own = In-unfilter p ys x i in In-filter p xs x (same.1 x own.0) own.1,
)

pub not_less : {X : Type 0} {cmp : X → X → Ordering} → IsTotalOrder cmp → (x y : X) → cmp x y ≡ Less → x ≡ y → ⊥
not_less {X} {cmp} t x y less is = let i = tied_itself t x in let own : cmp x x ≡ Less = subst (λ (z : X). cmp x z ≡ Less) (sym is) less in cc

-- ---- counting along lists

count_flat : {X Y : Type 0} (p : Y → Bool) (f : X → List Y) (xs : List X) → count_by p (flat_map f xs) ≡ sum_by (λ x. count_by p (f x)) xs
count_flat p f [] = refl
count_flat p f (x ∷ xs) =
    omega (arith, sum_by-append (λ y. cond (p y) 1 0) (f x) (flat_map f xs), sum_by-cons (λ z. count_by p (f z)) x xs, count_flat p f xs)

abbrev key_at : List ℕ → List ℕ → Key
key_at file test = record { file = file; test = test }

-- ---- points of one kind, if a point's value is above 0 exactly if an item hits it

module _ {X : Type 0} {cmp : X → X → Ordering} (o : IsExactOrder cmp) (kind : Kind X) (decides : (a b : X) → Decides (kind.same a b) (a ≡ b)) (hits : X → ItemData → Bool)
    (above : (x : X) (items : List ItemData) → kind.is_above x items ≡ list_any (hits x) items) where
  same_is : (p q : FilePoint X) → is_same kind p q ≡ true → p ≡ q
  same_is p q e =
      let both = and_parts (bytes_eq p.file q.file) (kind.same p.point q.point) e in
      let file : p.file ≡ q.file = (bytes_eq-Decides p.file q.file).0 both.0 in
      let point : p.point ≡ q.point = (decides p.point q.point).0 both.1 in
      λ i. record { file = file i; point = point i }

  same_from : (p q : FilePoint X) → p ≡ q → is_same kind p q ≡ true
  same_from p q is =
      and_from (bytes_eq p.file q.file) (kind.same p.point q.point) ((bytes_eq-Decides p.file q.file).1 (ap (λ (r : FilePoint X). r.file) is)) ((decides p.point q.point).1 (ap (λ (r : FilePoint X). r.point) is))

  same_equiv : IsEquivalence (is_same kind)
  same_equiv = record {
    refl = λ p. same_from p p refl;
    symm = λ p q. same_truth (is_same kind p q) (is_same kind q p) (λ e. same_from q p (sym (same_is p q e))) (λ e. same_from p q (sym (same_is q p e)));
    congr = λ p q r e. ap (λ (s : FilePoint X). is_same kind s r) (same_is p q e);
  }

  -- the points of a file, and those of all files
  abbrev own : List Row → List ℕ → List X
  own rows file = ascending cmp (flat_map kind.point (items_of_file file rows))

  abbrev all : List Row → List (List ℕ) → List (FilePoint X)
  all rows files = flat_map (λ file. map (in_file file) (own rows file)) files

  -- ---- each point of a file is there once

  distinct_own : (file : List ℕ) (xs : List X) → IsStrictlySortedBy cmp xs → IsDistinct (is_same kind) (map (in_file file) xs)
  unfolding IsStrictlySortedBy IsDistinct
  distinct_own file [] sorted = tt
  distinct_own file (x ∷ xs) sorted = (
    All-from (λ p. is_same kind (in_file file x) p ≡ false) (map (in_file file) xs)
        (λ p i. let source = In-unmap (in_file file) xs p i in
        unless (is_same kind (in_file file x) p)
        (λ e. not_less o.total x source.0 (All-in (λ z. cmp x z ≡ Less) xs source.0 sorted.0 source.1)
        (ap (λ (q : FilePoint X). q.point) (same_is (in_file file x) p e ∙ sym source.2)))),
    distinct_own file xs sorted.1,
  )

  distinct_all : (rows : List Row) (files : List (List ℕ)) → IsStrictlySortedBy (slice_cmp nat_cmp) files → IsDistinct (is_same kind) (all rows files)
  unfolding IsStrictlySortedBy IsDistinct
  distinct_all rows [] sorted = tt
  distinct_all rows (file ∷ files) sorted =
      distinct_joined (is_same kind) (map (in_file file) (own rows file)) (all rows files)
      (distinct_own file (own rows file) (ascending_sorted o.total (flat_map kind.point (items_of_file file rows))))
      (distinct_all rows files sorted.1)
      (λ p q i j. let here = In-unmap (in_file file) (own rows file) p i in
      let other = In-unflat (λ name. map (in_file name) (own rows name)) files q j in
      let there = In-unmap (in_file other.0) (own rows other.0) q other.2 in
      unless (is_same kind p q)
      (λ e. not_less names_order.total file other.0 (All-in (λ name. slice_cmp nat_cmp file name ≡ Less) files other.0 sorted.0 other.1)
      (ap (λ (r : FilePoint X). r.file) (here.2 ∙ same_is p q e ∙ sym there.2))))

  -- ---- the points of all files are the points of the rows

  to_rows : (rows : List Row) (p : FilePoint X) → In p (all rows (files_of rows)) → In p (points_of kind rows)
  to_rows rows p i =
      let file = In-unflat (λ name. map (in_file name) (own rows name)) (files_of rows) p i in
      let x = In-unmap (in_file file.0) (own rows file.0) p file.2 in
      let item = In-unflat kind.point (items_of_file file.0 rows) x.0 (In-ascending o.exact x.0 (flat_map kind.point (items_of_file file.0 rows)) x.1) in
      let row = In-unmap (λ (r : Row). r.item) (filter (has_file file.0) rows) item.0 item.1 in
      let of_file = In-unfilter (has_file file.0) rows row.0 row.1 in
      let speaks : In x.0 (kind.point row.0.item) = subst (λ (it : ItemData). In x.0 (kind.point it)) (sym row.2) item.2 in
      let name : row.0.file ≡ file.0 = (bytes_eq-Decides row.0.file file.0).0 of_file.1 in
      let is : in_file row.0.file x.0 ≡ p = ap (λ (n : List ℕ). in_file n x.0) name ∙ x.2 in
      In-flat (λ (r : Row). map (in_file r.file) (kind.point r.item)) rows row.0 p of_file.0
      (subst (λ (q : FilePoint X). In q (map (in_file row.0.file) (kind.point row.0.item))) is (In-map (in_file row.0.file) (kind.point row.0.item) x.0 speaks))

  from_rows : (rows : List Row) (p : FilePoint X) → In p (points_of kind rows) → In p (all rows (files_of rows))
  from_rows rows p i =
      let row = In-unflat (λ (r : Row). map (in_file r.file) (kind.point r.item)) rows p i in
      let file = row.0.file in
      let x = In-unmap (in_file file) (kind.point row.0.item) p row.2 in
      let item : In row.0.item (items_of_file file rows) =
      In-map (λ (r : Row). r.item) (filter (has_file file) rows) row.0 (In-filter (has_file file) rows row.0 row.1 ((bytes_eq-Decides file file).1 refl)) in
      let mine : In x.0 (own rows file) = In-to_ascending o.exact x.0 (flat_map kind.point (items_of_file file rows)) (In-flat kind.point (items_of_file file rows) row.0.item x.0 item x.1) in
      let known : In file (files_of rows) = In-to_ascending names_order.exact file (map (λ (r : Row). r.file) rows) (In-map (λ (r : Row). r.file) rows row.0 row.1) in
      In-flat (λ name. map (in_file name) (own rows name)) (files_of rows) file p known
      (subst (λ (q : FilePoint X). In q (map (in_file file) (own rows file))) x.2 (In-map (in_file file) (own rows file) x.0 mine))

  -- ---- a point is hit in a test exactly if a row of its file hits it

  hit_in_test : (rows : List Row) (file : List ℕ) (x : X) → is_hit_in_a_test kind rows (in_file file x) ≡ is_hit_in hits (items_of_file file rows) x
  hit_in_test rows file x = same_truth (is_hit_in_a_test kind rows (in_file file x)) (is_hit_in hits (items_of_file file rows) x) to from
    where
      to : is_hit_in_a_test kind rows (in_file file x) ≡ true → is_hit_in hits (items_of_file file rows) x ≡ true
      to h =
          let test = in_from_any (λ test. kind.is_above x (items_at (key_at file test) rows)) (map (λ (r : Row). r.test) rows) h in
          let key = key_at file test.0 in
          let item = in_from_any (hits x) (items_at key rows) (sym (above x (items_at key rows)) ∙ test.2) in
          let row = In-unmap (λ (r : Row). r.item) (filter (has_key key) rows) item.0 item.1 in
          let of_key = In-unfilter (has_key key) rows row.0 row.1 in
          let of_file : has_file file row.0 ≡ true = (and_parts (bytes_eq row.0.file file) (bytes_eq row.0.test test.0) of_key.1).0 in
          any_from_in (hits x) (items_of_file file rows) item.0
          (subst (λ (it : ItemData). In it (items_of_file file rows)) row.2 (In-map (λ (r : Row). r.item) (filter (has_file file) rows) row.0 (In-filter (has_file file) rows row.0 of_key.0 of_file)))
          item.2

      from : is_hit_in hits (items_of_file file rows) x ≡ true → is_hit_in_a_test kind rows (in_file file x) ≡ true
      from h =
          let item = in_from_any (hits x) (items_of_file file rows) h in
          let row = In-unmap (λ (r : Row). r.item) (filter (has_file file) rows) item.0 item.1 in
          let of_file = In-unfilter (has_file file) rows row.0 row.1 in
          let test = row.0.test in
          let of_key : has_key (key_at file test) row.0 ≡ true = and_from (bytes_eq row.0.file file) (bytes_eq test test) of_file.1 ((bytes_eq-Decides test test).1 refl) in
          let there : In item.0 (items_at (key_at file test) rows) =
          subst (λ (it : ItemData). In it (items_at (key_at file test) rows)) row.2 (In-map (λ (r : Row). r.item) (filter (has_key (key_at file test)) rows) row.0 (In-filter (has_key (key_at file test)) rows row.0 of_file.0 of_key)) in
          any_from_in (λ t. kind.is_above x (items_at (key_at file t) rows)) (map (λ (r : Row). r.test) rows) test (In-map (λ (r : Row). r.test) rows row.0 of_file.0)
          (above x (items_at (key_at file test) rows) ∙ any_from_in (hits x) (items_at (key_at file test) rows) item.0 there item.2)

  -- ---- so the sums over the files count different points

  pub found_is : (rows : List Row) → sum_by (λ file. found_in cmp kind.point (items_of_file file rows)) (files_of rows) ≡ found kind rows
  found_is rows =
      let files = files_of rows in
      sum_agree (λ file. found_in cmp kind.point (items_of_file file rows)) (λ file. length (map (in_file file) (own rows file))) (λ file. sym (length-map (own rows file) (in_file file))) files
      ∙ sym (length-flat_map (λ file. map (in_file file) (own rows file)) files)
      ∙ length-from_keys same_equiv (all rows files) (points_of kind rows) (distinct_all rows files (ascending_sorted names_order.total (map (λ (r : Row). r.file) rows)))
      (λ p. any_same_members (is_same kind p) (all rows files) (points_of kind rows) (to_rows rows, from_rows rows))

  pub hit_is : (rows : List Row) → sum_by (λ file. hit_in cmp kind.point hits (items_of_file file rows)) (files_of rows) ≡ hit kind rows
  hit_is rows =
      let files = files_of rows in
      let is_hit = is_hit_in_a_test kind rows in
      sum_agree (λ file. hit_in cmp kind.point hits (items_of_file file rows)) (λ file. count_by is_hit (map (in_file file) (own rows file)))
      (λ file. count_agree (is_hit_in hits (items_of_file file rows)) (λ x. is_hit (in_file file x)) (λ x. sym (hit_in_test rows file x)) (own rows file) ∙ sym (count_mapped is_hit (in_file file) (own rows file))) files
      ∙ sym (count_flat is_hit (λ file. map (in_file file) (own rows file)) files)
      ∙ sym (length-filter is_hit (all rows files))
      ∙ length-from_keys same_equiv (filter is_hit (all rows files)) (filter is_hit (points_of kind rows))
      (distinct_filter (is_same kind) is_hit (all rows files) (distinct_all rows files (ascending_sorted names_order.total (map (λ (r : Row). r.file) rows))))
      (λ p. let same = same_filtered is_hit (all rows files) (points_of kind rows) (to_rows rows, from_rows rows) in
      any_same_members (is_same kind p) (filter is_hit (all rows files)) (filter is_hit (points_of kind rows)) same)

-- ---- the three kinds

line_decides : (a b : ℕ) → Decides (a == b) (a ≡ b)
line_decides a b = (eqb-true a b, eq-eqb a b)

branch_decides : (a b : BranchPoint) → Decides (branches.same a b) (a ≡ b)
branch_decides a b = (λ e. sym (same_branch a b.line b.block b.branch e), λ is. subst (λ (c : BranchPoint). branches.same a c ≡ true) is (itself a))

pub lines_counted : (rows : List Row) → ((totals_of (content_of rows)).lf ≡ found lines rows) × ((totals_of (content_of rows)).lh ≡ hit lines rows)
lines_counted rows =
    let same : totals_of (content_of rows) ≡ totals_over rows = totals_of_rows rows in
    (ap (λ (t : Totals). t.lf) same ∙ found_is lines_order lines line_decides hits_line line_above rows, ap (λ (t : Totals). t.lh) same ∙ hit_is lines_order lines line_decides hits_line line_above rows)

pub functions_counted : (rows : List Row) → ((totals_of (content_of rows)).ff ≡ found functions rows) × ((totals_of (content_of rows)).fh ≡ hit functions rows)
functions_counted rows =
    let same : totals_of (content_of rows) ≡ totals_over rows = totals_of_rows rows in (
      ap (λ (t : Totals). t.ff) same ∙ found_is names_order functions bytes_eq-Decides hits_function function_above rows,
      ap (λ (t : Totals). t.fh) same ∙ hit_is names_order functions bytes_eq-Decides hits_function function_above rows,
    )

pub branches_counted : (rows : List Row) → ((totals_of (content_of rows)).bf ≡ found branches rows) × ((totals_of (content_of rows)).bh ≡ hit branches rows)
branches_counted rows =
    let same : totals_of (content_of rows) ≡ totals_over rows = totals_of_rows rows in
    (ap (λ (t : Totals). t.bf) same ∙ found_is branches_order branches branch_decides hits_branch branch_above rows, ap (λ (t : Totals). t.bh) same ∙ hit_is branches_order branches branch_decides hits_branch branch_above rows)

-- Lists in which no two elements are the same, by a given test. How many different elements a list has, and what is still true of
-- a list after it is sorted.
use Rattle.std.proofs.Common.{◌≡◌, ℕ, ◌+◌, Bool, true, false, cond, ◌||◌, List, [], ◌∷◌, ◌++◌, length, map, refl, sym, ap, ◌∙◌, arith}
use Rattle.std.specs.Prelude.{filter, count_by}
use Rattle.std.specs.Cmp.{IsEquivalence}
use Rattle.std.specs.declared.cmp.Ordering.{Ordering}
use Rattle.std.specs.declared.cmp.Ordering.TheVariants.{Less, Equal, Greater}
use Rattle.std.specs.Ordering.{match_ordering}
use Rattle.std.specs.List.{list_any, AllByRecursion}
use Rattle.std.specs.List.Sorted.{IsStrictlySortedBy}
use Rattle.std.proofs.lemmas.List.Folds.{list_any-append}
use Rattle.std.proofs.lemmas.List.Sums.{sum_by-cons}
use Rattle.covread.specs.Reads.{distinct}
use Rattle.covreport.specs.Report.{put_in, sorted}

-- no two elements of the list are the same, by the test `same`
abbrev pub AreApart : {X : Type 0} → (X → X → Bool) → List X → Type 0
AreApart same [] = Unit {0}
AreApart same (x ∷ xs) = AllByRecursion (λ y. same x y ≡ false) xs × AreApart same xs

-- ---- what holds of all elements

pub all_zip : {X : Type 0} (P Q R : X → Type 0) → ((x : X) → P x → Q x → R x) → (xs : List X) → AllByRecursion P xs → AllByRecursion Q xs → AllByRecursion R xs
all_zip P Q R both [] p q = tt
all_zip P Q R both (x ∷ xs) p q = (both x p.0 q.0, all_zip P Q R both xs p.1 q.1)

pub all_more : {X : Type 0} (P Q : X → Type 0) → ((x : X) → P x → Q x) → (xs : List X) → AllByRecursion P xs → AllByRecursion Q xs
all_more P Q more [] p = tt
all_more P Q more (x ∷ xs) p = (more x p.0, all_more P Q more xs p.1)

pub always : {X : Type 0} (P : X → Type 0) → ((x : X) → P x) → (xs : List X) → AllByRecursion P xs
always P each [] = tt
always P each (x ∷ xs) = (each x, always P each xs)

pub all_mapped : {X Y : Type 0} (f : X → Y) (P : Y → Type 0) (xs : List X) → AllByRecursion (λ x. P (f x)) xs → AllByRecursion P (map f xs)
all_mapped f P [] all = tt
all_mapped f P (x ∷ xs) all = (all.0, all_mapped f P xs all.1)

pub all_unmapped : {X Y : Type 0} (f : X → Y) (P : Y → Type 0) (xs : List X) → AllByRecursion P (map f xs) → AllByRecursion (λ x. P (f x)) xs
all_unmapped f P [] all = tt
all_unmapped f P (x ∷ xs) all = (all.0, all_unmapped f P xs all.1)

-- ---- how many different elements there are

or_true : (b : Bool) → (b || true) ≡ true
or_true true = refl
or_true false = refl

-- if each element of xs differs from x, a search for x in xs finds nothing
none_same : {X : Type 0} (same : X → X → Bool) (x : X) (xs : List X) → AllByRecursion (λ y. same x y ≡ false) xs → list_any (same x) xs ≡ false
none_same same x [] apart = refl
none_same same x (y ∷ ys) apart = ap (λ (b : Bool). b || list_any (same x) ys) apart.0 ∙ none_same same x ys apart.1

pub distinct_apart : {X : Type 0} (same : X → X → Bool) (xs : List X) → AreApart same xs → distinct same xs ≡ length xs
distinct_apart same [] apart = refl
distinct_apart same (x ∷ xs) apart =
    ap (λ (b : Bool). cond b (distinct same xs) (distinct same xs + 1)) (none_same same x xs apart.0)
    ∙ (let rest = distinct_apart same xs apart.1 in omega (arith, rest))

found_later : {X : Type 0} (same : X → X → Bool) → IsEquivalence same → (front : List X) (x : X) (back : List X) → list_any (same x) (front ++ x ∷ back) ≡ true
found_later same laws [] x back = ap (λ (b : Bool). b || list_any (same x) back) (laws.refl x)
found_later same laws (y ∷ front) x back = ap (λ (b : Bool). same x y || b) (found_later same laws front x back) ∙ or_true (same x y)

-- elements that are all in the list after them add nothing to the number of different elements
pub distinct_again : {X : Type 0} (same : X → X → Bool) → IsEquivalence same → (xs front : List X) (ys : List X) → ys ≡ front ++ xs → distinct same (xs ++ ys) ≡ distinct same ys
distinct_again same laws [] front ys is = refl
distinct_again {X} same laws (x ∷ xs) front ys is =
    ap (λ (b : Bool). cond b (distinct same (xs ++ ys)) (distinct same (xs ++ ys) + 1)) found
    ∙ distinct_again same laws xs (front ++ x ∷ []) ys (is ∙ sym (grouped front))
  where
    grouped : (front : List X) → (front ++ x ∷ []) ++ xs ≡ front ++ x ∷ xs
    grouped [] = refl
    grouped (y ∷ front) = ap (λ (l : List X). y ∷ l) (grouped front)

    found : list_any (same x) (xs ++ ys) ≡ true
    found =
        list_any-append (same x) xs ys
        ∙ ap (λ (l : List X). list_any (same x) xs || list_any (same x) l) is
        ∙ ap (λ (b : Bool). list_any (same x) xs || b) (found_later same laws front x xs)
        ∙ or_true (list_any (same x) xs)

-- ---- elements that differ still do after a filter or a map

none_kept : {X : Type 0} (same : X → X → Bool) (q : X → Bool) (x : X) (xs : List X) → AllByRecursion (λ y. same x y ≡ false) xs → AllByRecursion (λ y. same x y ≡ false) (filter q xs)
none_kept same q x [] apart = tt
none_kept same q x (y ∷ ys) apart = by (none_kept same q x ys apart.1) (q y)
  where
    by : AllByRecursion (λ z. same x z ≡ false) (filter q ys) → (b : Bool) → AllByRecursion (λ z. same x z ≡ false) (cond b (y ∷ filter q ys) (filter q ys))
    by rest true = (apart.0, rest)
    by rest false = rest

pub apart_kept : {X : Type 0} (same : X → X → Bool) (q : X → Bool) (xs : List X) → AreApart same xs → AreApart same (filter q xs)
apart_kept same q [] apart = tt
apart_kept same q (x ∷ xs) apart = by (apart_kept same q xs apart.1) (q x)
  where
    by : AreApart same (filter q xs) → (b : Bool) → AreApart same (cond b (x ∷ filter q xs) (filter q xs))
    by rest true = (none_kept same q x xs apart.0, rest)
    by rest false = rest

pub apart_mapped : {X Y : Type 0} (f : X → Y) (same : Y → Y → Bool) (xs : List X) → AreApart (λ a b. same (f a) (f b)) xs → AreApart same (map f xs)
apart_mapped f same [] apart = tt
apart_mapped f same (x ∷ xs) apart = (all_mapped f (λ y. same (f x) y ≡ false) xs apart.0, apart_mapped f same xs apart.1)

pub apart_unmapped : {X Y : Type 0} (f : X → Y) (same : Y → Y → Bool) (xs : List X) → AreApart same (map f xs) → AreApart (λ a b. same (f a) (f b)) xs
apart_unmapped f same [] apart = tt
apart_unmapped f same (x ∷ xs) apart = (all_unmapped f (λ y. same (f x) y ≡ false) xs apart.0, apart_unmapped f same xs apart.1)

-- no two elements of a strictly sorted list are the same, if `same` is false of any two of which one is less
pub apart_ordered : {X : Type 0} (cmp : X → X → Ordering) (same : X → X → Bool) → ((x y : X) → cmp x y ≡ Less → same x y ≡ false) → (xs : List X)
    → IsStrictlySortedBy cmp xs → AreApart same xs
unfolding IsStrictlySortedBy
apart_ordered cmp same differ [] up = tt
apart_ordered cmp same differ (x ∷ xs) up = (all_more (λ y. cmp x y ≡ Less) (λ y. same x y ≡ false) (differ x) xs up.0, apart_ordered cmp same differ xs up.1)

-- ---- what is still true of a sorted list

module _ {X : Type 0} (cmp : X → X → Ordering) where
  all_put_in : (P : X → Type 0) (x : X) (ys : List X) → P x → AllByRecursion P ys → AllByRecursion P (put_in cmp x ys)
  all_put_in P x [] here all = (here, tt)
  all_put_in P x (y ∷ ys) here all = by (cmp x y) (all_put_in P x ys here all.1)
    where
      by : (o : Ordering) → AllByRecursion P (put_in cmp x ys) → AllByRecursion P (match_ordering o (x ∷ y ∷ ys) (x ∷ y ∷ ys) (y ∷ put_in cmp x ys))
      by Less later = (here, all)
      by Equal later = (here, all)
      by Greater later = (all.0, later)

  all_sorted : (P : X → Type 0) (xs : List X) → AllByRecursion P xs → AllByRecursion P (sorted cmp xs)
  all_sorted P [] all = tt
  all_sorted P (x ∷ xs) all = all_put_in P x (sorted cmp xs) all.0 (all_sorted P xs all.1)

  module _ (same : X → X → Bool) (turned : (x y : X) → same x y ≡ false → same y x ≡ false) where
    apart_put_in : (x : X) (ys : List X) → AllByRecursion (λ y. same x y ≡ false) ys → AreApart same ys → AreApart same (put_in cmp x ys)
    apart_put_in x [] differ apart = (tt, tt)
    apart_put_in x (y ∷ ys) differ apart = by (cmp x y) (apart_put_in x ys differ.1 apart.1)
      where
        by : (o : Ordering) → AreApart same (put_in cmp x ys) → AreApart same (match_ordering o (x ∷ y ∷ ys) (x ∷ y ∷ ys) (y ∷ put_in cmp x ys))
        by Less later = (differ, apart)
        by Equal later = (differ, apart)
        by Greater later = (all_put_in (λ z. same y z ≡ false) x ys (turned x y differ.0) apart.0, later)

    pub apart_sorted : (xs : List X) → AreApart same xs → AreApart same (sorted cmp xs)
    apart_sorted [] apart = tt
    apart_sorted (x ∷ xs) apart = apart_put_in x (sorted cmp xs) (all_sorted (λ y. same x y ≡ false) xs apart.0) (apart_sorted xs apart.1)

  -- a number that is a sum over the elements is the same for the sorted list
  module _ (whole : List X → ℕ) (one : X → ℕ) (adds : (x : X) (xs : List X) → whole (x ∷ xs) ≡ one x + whole xs) where
    whole_put_in : (x : X) (ys : List X) → whole (put_in cmp x ys) ≡ one x + whole ys
    whole_put_in x [] = adds x []
    whole_put_in x (y ∷ ys) = by (cmp x y) (whole_put_in x ys)
      where
        by : (o : Ordering) → whole (put_in cmp x ys) ≡ one x + whole ys → whole (match_ordering o (x ∷ y ∷ ys) (x ∷ y ∷ ys) (y ∷ put_in cmp x ys)) ≡ one x + whole (y ∷ ys)
        by Less later = adds x (y ∷ ys)
        by Equal later = adds x (y ∷ ys)
        by Greater later = omega (arith, later, adds y (put_in cmp x ys), adds y ys)

    whole_sorted : (xs : List X) → whole (sorted cmp xs) ≡ whole xs
    whole_sorted [] = refl
    whole_sorted (x ∷ xs) = omega (arith, whole_put_in x (sorted cmp xs), whole_sorted xs, adds x xs)

  pub length-sorted : (xs : List X) → length (sorted cmp xs) ≡ length xs
  length-sorted xs = whole_sorted length (λ x. 1) (λ x xs. omega arith) xs

  pub count_by-sorted : (q : X → Bool) (xs : List X) → count_by q (sorted cmp xs) ≡ count_by q xs
  count_by-sorted q xs = whole_sorted (count_by q) (λ x. cond (q x) 1 0) (sum_by-cons (λ x. cond (q x) 1 0)) xs

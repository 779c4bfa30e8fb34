-- A list can be sorted in only one way if only equal elements compare as equal. `sorted` sorts it in this way.
use Rattle.std.proofs.Common.{◌≡◌, ℕ, zero, suc, add-one, ◌+◌, ◌<◌, Bool, false, true, cond, List, [], ◌∷◌, length, get_or, refl, sym, ap, ap₂, ◌∙◌, arith}
use Rattle.std.specs.Cmp.{IsTotalOrder}
use Rattle.std.specs.declared.cmp.Ordering.{Ordering}
use Rattle.std.specs.declared.cmp.Ordering.TheVariants.{Less, Equal, Greater}
use Rattle.std.specs.Ordering.{is_gt, is_lt, match_ordering, ordering_reverse}
use Rattle.std.specs.List.{AllByRecursion, sum_by}
use Rattle.std.specs.List.Sorted.{IsSorted, IsPermutation}
use Rattle.std.proofs.lemmas.Bool.{false≢true}
use Rattle.std.proofs.lemmas.Cmp.{tied_itself, upto}
use Rattle.std.proofs.lemmas.List.Sorted.{IsPermutation-refl, IsPermutation-cons, IsPermutation-trans, IsPermutation-middle, sum_by-IsPermutation}
use Rattle.std.proofs.lemmas.List.Sums.{sum_by-cons}
use Rattle.std.proofs.lemmas.Map.Lookups.{CmpEqualImpliesEq}
use Rattle.covreport.specs.Report.{put_in, sorted}

all_weaker : {X : Type 0} (P Q : X → Type 0) → ((x : X) → P x → Q x) → (xs : List X) → AllByRecursion P xs → AllByRecursion Q xs
all_weaker P Q h [] all = tt
all_weaker P Q h (x ∷ xs) all = (h x all.0, all_weaker P Q h xs all.1)

not_above : (o : Ordering) → is_lt o ≡ false → is_gt (ordering_reverse o) ≡ false
not_above Less h = absurd (false≢true (sym h))
not_above Equal h = refl
not_above Greater h = refl

not_below : (o : Ordering) → is_gt o ≡ false → is_lt (ordering_reverse o) ≡ false
not_below Less h = refl
not_below Equal h = refl
not_below Greater h = absurd (false≢true (sym h))

-- if neither of two elements is greater than the other, they compare as equal
level : (o : Ordering) → is_gt o ≡ false → is_gt (ordering_reverse o) ≡ false → o ≡ Equal
level Less p q = absurd (false≢true (sym q))
level Equal p q = refl
level Greater p q = absurd (false≢true (sym p))

module _ {X : Type 0} (cmp : X → X → Ordering) (total : IsTotalOrder cmp) where
  abbrev AtMost : X → X → Type 0
  AtMost a b = is_gt (cmp a b) ≡ false

  -- each element is at most each element after it
  abbrev pub Rises : List X → Type 0
  Rises [] = Unit {0}
  Rises (x ∷ xs) = AllByRecursion (AtMost x) xs × Rises xs

  at_most_all : (x y : X) (ys : List X) → AtMost x y → AllByRecursion (AtMost y) ys → AllByRecursion (AtMost x) (y ∷ ys)
  at_most_all x y ys first others = (first, all_weaker (AtMost y) (AtMost x) (λ z. upto total x y z first) ys others)

  -- ---- what a sort ensures

  lowest : (x : X) (ys : List X) → IsSorted cmp (x ∷ ys) → Rises ys → AllByRecursion (AtMost x) ys
  lowest x [] up rises = tt
  lowest x (y ∷ ys) up rises = at_most_all x y ys (ap is_gt (total.antisymm x y) ∙ not_above (cmp y x) (up 0 x (omega arith) (omega arith))) rises.0

  pub rises_from_sorted : (xs : List X) → IsSorted cmp xs → Rises xs
  rises_from_sorted [] up = tt
  rises_from_sorted (x ∷ xs) up =
      let tail : IsSorted cmp xs = λ k d p q. rw add-one (rw add-one at (up (suc k) d (omega arith) (omega arith))) in
      let rises = rises_from_sorted xs tail in
      (lowest x xs up rises, rises)

  step : (x y : X) (ys : List X) → Rises (x ∷ y ∷ ys) → IsSorted cmp (y ∷ ys) → (k : ℕ) (d : X) → k + 1 < length (x ∷ y ∷ ys)
      → is_lt (cmp (get_or (x ∷ y ∷ ys) (k + 1) d) (get_or (x ∷ y ∷ ys) k d)) ≡ false
  step x y ys rises up zero d q = ap is_lt (total.antisymm y x) ∙ not_below (cmp x y) rises.0.0
  step x y ys rises up (suc k) d q = rw add-one (rw add-one at (up k d (omega arith) (omega arith)))

  pub sorted_from_rises : (xs : List X) → Rises xs → IsSorted cmp xs
  sorted_from_rises [] rises = λ k d p q. absurd (omega (arith, q))
  sorted_from_rises (x ∷ []) rises = λ k d p q. absurd (omega (arith, q))
  sorted_from_rises (x ∷ y ∷ ys) rises = λ k d p q. step x y ys rises (sorted_from_rises (y ∷ ys) rises.1) k d q

  -- ---- the list that `sorted` gives

  all_put_in : (P : X → Type 0) (x : X) (ys : List X) → P x → AllByRecursion P ys → AllByRecursion P (put_in cmp x ys)
  all_put_in P x [] here all = (here, tt)
  all_put_in P x (y ∷ ys) here all = by (cmp x y) (all_put_in P x ys here all.1)
    where
      by : (o : Ordering) → AllByRecursion P (put_in cmp x ys) → AllByRecursion P (match_ordering o (x ∷ y ∷ ys) (x ∷ y ∷ ys) (y ∷ put_in cmp x ys))
      by Less later = (here, all)
      by Equal later = (here, all)
      by Greater later = (all.0, later)

  rises_put_in : (x : X) (ys : List X) → Rises ys → Rises (put_in cmp x ys)
  rises_put_in x [] rises = (tt, tt)
  rises_put_in x (y ∷ ys) rises = by (cmp x y) refl (rises_put_in x ys rises.1)
    where
      by : (o : Ordering) → cmp x y ≡ o → Rises (put_in cmp x ys) → Rises (match_ordering o (x ∷ y ∷ ys) (x ∷ y ∷ ys) (y ∷ put_in cmp x ys))
      by Less e later = (at_most_all x y ys (ap is_gt e) rises.0, rises)
      by Equal e later = (at_most_all x y ys (ap is_gt e) rises.0, rises)
      by Greater e later = (all_put_in (AtMost y) x ys (ap is_gt (total.antisymm y x ∙ ap ordering_reverse e)) rises.0, later)

  pub rises_sorted : (xs : List X) → Rises (sorted cmp xs)
  rises_sorted [] = tt
  rises_sorted (x ∷ xs) = rises_put_in x (sorted cmp xs) (rises_sorted xs)

  moved_put_in : (x : X) (ys : List X) → IsPermutation (put_in cmp x ys) (x ∷ ys)
  moved_put_in x [] = IsPermutation-refl (x ∷ [])
  moved_put_in x (y ∷ ys) = by (cmp x y) (moved_put_in x ys)
    where
      by : (o : Ordering) → IsPermutation (put_in cmp x ys) (x ∷ ys) → IsPermutation (match_ordering o (x ∷ y ∷ ys) (x ∷ y ∷ ys) (y ∷ put_in cmp x ys)) (x ∷ y ∷ ys)
      by Less later = IsPermutation-refl (x ∷ y ∷ ys)
      by Equal later = IsPermutation-refl (x ∷ y ∷ ys)
      by Greater later = IsPermutation-trans (y ∷ put_in cmp x ys) (y ∷ x ∷ ys) (x ∷ y ∷ ys) (IsPermutation-cons y (put_in cmp x ys) (x ∷ ys) later) (IsPermutation-middle (y ∷ []) x ys)

  pub moved_sorted : (xs : List X) → IsPermutation (sorted cmp xs) xs
  moved_sorted [] = IsPermutation-refl []
  moved_sorted (x ∷ xs) = IsPermutation-trans (put_in cmp x (sorted cmp xs)) (x ∷ sorted cmp xs) (x ∷ xs) (moved_put_in x (sorted cmp xs)) (IsPermutation-cons x (sorted cmp xs) xs (moved_sorted xs))

  -- ---- there is one sorted order

  -- 1 if z is less than x, else 0. Summed over a list, this counts the elements that are less than x
  abbrev below : X → X → ℕ
  below x z = cond (is_gt (cmp x z)) 1 0

  none_below : (x : X) (xs : List X) → AllByRecursion (AtMost x) xs → sum_by (below x) xs ≡ 0
  none_below x [] all = refl
  none_below x (y ∷ ys) all =
      let here : below x y ≡ 0 = ap (λ b. cond {A = ℕ} b 1 0) all.0 in
      omega (arith, sum_by-cons (below x) y ys, here, none_below x ys all.1)

  at_most_first : (x y : X) (xs ys : List X) → Rises (x ∷ xs) → sum_by (below x) (x ∷ xs) ≡ sum_by (below x) (y ∷ ys) → AtMost x y
  at_most_first x y xs ys rises same =
      none (is_gt (cmp x y)) (omega (arith, same, none_below x (x ∷ xs) (ap is_gt (tied_itself total x), rises.0), sum_by-cons (below x) y ys))
    where
      none : (b : Bool) → cond {A = ℕ} b 1 0 ≡ 0 → b ≡ false
      none false e = refl
      none true e = absurd (omega (arith, e))

  same_sums : CmpEqualImpliesEq cmp → (xs ys : List X) → Rises xs → Rises ys → ((f : X → ℕ) → sum_by f xs ≡ sum_by f ys) → xs ≡ ys
  same_sums exact [] [] up to same = refl
  same_sums exact [] (y ∷ ys) up to same = absurd (omega (arith, same (λ z. 1), sum_by-cons (λ z. 1) y ys))
  same_sums exact (x ∷ xs) [] up to same = absurd (omega (arith, same (λ z. 1), sum_by-cons (λ z. 1) x xs))
  same_sums exact (x ∷ xs) (y ∷ ys) up to same =
      let low = at_most_first x y xs ys up (same (below x)) in
      let high = at_most_first y x ys xs to (sym (same (below y))) in
      let first : x ≡ y = exact x y (level (cmp x y) low (ap is_gt (sym (total.antisymm y x)) ∙ high)) in
      let others = same_sums exact xs ys up.1 to.1 (λ f. omega (arith, same f, sum_by-cons f x xs, sum_by-cons f y ys, ap f first)) in
      ap₂ (λ (z : X) (zs : List X). z ∷ zs) first others

  pub sorted_is : CmpEqualImpliesEq cmp → (xs ys : List X) → IsPermutation xs ys → IsSorted cmp ys → ys ≡ sorted cmp xs
  sorted_is exact xs ys moved up =
      same_sums exact ys (sorted cmp xs) (rises_from_sorted ys up) (rises_sorted xs)
      (λ f. sum_by-IsPermutation f xs ys moved ∙ sum_by-IsPermutation f (sorted cmp xs) xs (moved_sorted xs))

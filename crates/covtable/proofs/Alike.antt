-- Lists that are alike: they have the same elements, and the same sums over them. A list and its permutation are alike. Lists
-- that are filtered, mapped or collected from alike lists are alike too.
use Rattle.std.proofs.Common.{◌≡◌, ℕ, ◌+◌, ◌<◌, ◌≤◌, Bool, true, false, cond, min, Some, List, [], ◌∷◌, map, filter, refl, sym, ap, ◌∙◌, subst, inl, inr, ⊎_elim, arith}
use Rattle.std.specs.declared.cmp.Ordering.{Ordering}
use Rattle.std.specs.List.{flat_map, sum_by, fold}
use Rattle.std.specs.List.Sorted.{IsPermutation}
use Rattle.std.specs.Prelude.{◌⊎◌}
use Rattle.std.proofs.lemmas.Bool.{cases_lt}
use Rattle.std.proofs.lemmas.List.Sorted.{IsPermutation-sym, Contains-permutation, sum_by-IsPermutation}
use Rattle.std.proofs.lemmas.List.Sums.{sum_by-cons, sum_by-append}
use Rattle.std.proofs.Math.Nat.{min-le_left, min-le_right, min-eq_left, min-eq_right}
use Rattle.covdata.specs.Points.{least}
use Rattle.covtable.specs.Ascending.{ascending}
use Rattle.covtable.specs.Value.{bounded, first_of, sum_if_any}
use Rattle.covtable.proofs.Ascend.{IsExactOrder}
use Rattle.covtable.proofs.ContentsKinds.{same_ascending, map_same}
use Rattle.covtable.proofs.ContentsLists.{In-flat, In-unflat, In-filter, In-unfilter}
use Rattle.covtable.proofs.Members.{In, In-from, Contains-from, In-map, In-unmap}

pub record AreAlike {X : Type 0} (xs ys : List X) : Type 0 where
  pub there : (x : X) → In x xs → In x ys
  pub back : (x : X) → In x ys → In x xs
  pub sums : (f : X → ℕ) → sum_by f xs ≡ sum_by f ys

pub alike_permuted : {X : Type 0} (xs ys : List X) → IsPermutation xs ys → AreAlike xs ys
alike_permuted xs ys permuted = record {
  there = λ x i. In-from ys x (Contains-permutation xs ys x permuted (Contains-from xs x i));
  back = λ x i. In-from xs x (Contains-permutation ys xs x (IsPermutation-sym xs ys permuted) (Contains-from ys x i));
  sums = λ f. sym (sum_by-IsPermutation f xs ys permuted);
}

-- ---- what is made from alike lists

pub sum_by-map : {X Y : Type 0} (f : Y → ℕ) (g : X → Y) (xs : List X) → sum_by f (map g xs) ≡ sum_by (λ x. f (g x)) xs
sum_by-map f g [] = refl
sum_by-map {X} {Y} f g (x ∷ xs) = sum_by-cons f (g x) (map g xs) ∙ ap (λ (n : ℕ). f (g x) + n) (sum_by-map f g xs) ∙ sym (sum_by-cons (λ (z : X). f (g z)) x xs)

sum_by-flat : {X Y : Type 0} (f : Y → ℕ) (g : X → List Y) (xs : List X) → sum_by f (flat_map g xs) ≡ sum_by (λ x. sum_by f (g x)) xs
sum_by-flat f g [] = refl
sum_by-flat {X} {Y} f g (x ∷ xs) =
    sum_by-append f (g x) (flat_map g xs) ∙ ap (λ (n : ℕ). sum_by f (g x) + n) (sum_by-flat f g xs) ∙ sym (sum_by-cons (λ (z : X). sum_by f (g z)) x xs)

sum_by-picked : {X : Type 0} (f : X → ℕ) (p : X → Bool) (x : X) (xs : List X) (b : Bool) → p x ≡ b → sum_by f (filter p xs) ≡ sum_by (λ x. cond (p x) (f x) 0) xs
    → sum_by f (cond b (x ∷ filter p xs) (filter p xs)) ≡ cond b (f x) 0 + sum_by (λ x. cond (p x) (f x) 0) xs
sum_by-picked f p x xs true is others = sum_by-cons f x (filter p xs) ∙ ap (λ (n : ℕ). f x + n) others
sum_by-picked f p x xs false is others = omega (arith, others)

sum_by-filter : {X : Type 0} (f : X → ℕ) (p : X → Bool) (xs : List X) → sum_by f (filter p xs) ≡ sum_by (λ x. cond (p x) (f x) 0) xs
sum_by-filter f p [] = refl
sum_by-filter {X} f p (x ∷ xs) = sum_by-picked f p x xs (p x) refl (sum_by-filter f p xs) ∙ sym (sum_by-cons (λ (z : X). cond (p z) (f z) 0) x xs)

member_mapped : {X Y : Type 0} (g : X → Y) (xs ys : List X) → ((x : X) → In x xs → In x ys) → (y : Y) → In y (map g xs) → In y (map g ys)
member_mapped {X} {Y} g xs ys there y i = let from = In-unmap g xs y i in subst (λ (z : Y). In z (map g ys)) from.2 (In-map g ys from.0 (there from.0 from.1))

pub alike_mapped : {X Y : Type 0} (g : X → Y) (xs ys : List X) → AreAlike xs ys → AreAlike (map g xs) (map g ys)
alike_mapped {X} {Y} g xs ys alike = record {
  there = member_mapped g xs ys alike.there;
  back = member_mapped g ys xs alike.back;
  sums = λ f. sum_by-map f g xs ∙ alike.sums (λ (x : X). f (g x)) ∙ sym (sum_by-map f g ys);
}

member_said : {X Y : Type 0} (g : X → List Y) (xs ys : List X) → ((x : X) → In x xs → In x ys) → (y : Y) → In y (flat_map g xs) → In y (flat_map g ys)
member_said g xs ys there y i = let from = In-unflat g xs y i in In-flat g ys from.0 y (there from.0 from.1) from.2

pub alike_said : {X Y : Type 0} (g : X → List Y) (xs ys : List X) → AreAlike xs ys → AreAlike (flat_map g xs) (flat_map g ys)
alike_said {X} {Y} g xs ys alike = record {
  there = member_said g xs ys alike.there;
  back = member_said g ys xs alike.back;
  sums = λ f. sum_by-flat f g xs ∙ alike.sums (λ (x : X). sum_by f (g x)) ∙ sym (sum_by-flat f g ys);
}

member_picked : {X : Type 0} (p : X → Bool) (xs ys : List X) → ((x : X) → In x xs → In x ys) → (x : X) → In x (filter p xs) → In x (filter p ys)
member_picked p xs ys there x i = let from = In-unfilter p xs x i in In-filter p ys x (there x from.0) from.1

pub alike_picked : {X : Type 0} (p : X → Bool) (xs ys : List X) → AreAlike xs ys → AreAlike (filter p xs) (filter p ys)
alike_picked {X} p xs ys alike = record {
  there = member_picked p xs ys alike.there;
  back = member_picked p ys xs alike.back;
  sums = λ f. sum_by-filter f p xs ∙ alike.sums (λ (x : X). cond (p x) (f x) 0) ∙ sym (sum_by-filter f p ys);
}

-- ---- what alike lists give

-- if all elements of two alike lists are equal, the lists have the same first element, or both are empty
pub first_alike : {X : Type 0} (xs ys : List X) → AreAlike xs ys → ((x y : X) → In x xs → In y xs → x ≡ y) → first_of xs ≡ first_of ys
first_alike [] [] alike one = refl
first_alike [] (y ∷ ys) alike one = absurd (alike.back y (inl refl))
first_alike (x ∷ xs) [] alike one = absurd (alike.there x (inl refl))
first_alike {X} (x ∷ xs) (y ∷ ys) alike one = ap (λ (z : X). Some z) (one x y (inl refl) (alike.back y (inl refl)))

pub sum_alike : (xs ys : List ℕ) → AreAlike xs ys → sum_if_any xs ≡ sum_if_any ys
sum_alike [] [] alike = refl
sum_alike [] (y ∷ ys) alike = absurd (alike.back y (inl refl))
sum_alike (x ∷ xs) [] alike = absurd (alike.there x (inl refl))
sum_alike (x ∷ xs) (y ∷ ys) alike = ap (λ (n : ℕ). Some (bounded n)) (alike.sums (λ (n : ℕ). n))

either_least : (m n : ℕ) → (min m n ≡ m) ⊎ (min m n ≡ n)
either_least m n =
    ⊎_elim (λ (l : m < n). let le : m ≤ n = omega (arith, l) in inl (min-eq_left le)) (λ (l : n ≤ m). inr (min-eq_right l)) (cases_lt m n)

least_among : (n : ℕ) (ns : List ℕ) → In (fold min n ns) (n ∷ ns)
least_among n [] = inl refl
least_among n (m ∷ ns) = by (least_among (min n m) ns) (either_least n m)
  where
    by : In (fold min (min n m) ns) (min n m ∷ ns) → (min n m ≡ n) ⊎ (min n m ≡ m) → In (fold min (min n m) ns) (n ∷ m ∷ ns)
    by (inl is) (inl first) = inl (sym first ∙ is)
    by (inl is) (inr other) = inr (inl (sym other ∙ is))
    by (inr i) either = inr (inr i)

least_below : (n : ℕ) (ns : List ℕ) (k : ℕ) → In k (n ∷ ns) → fold min n ns ≤ k
least_below n [] k (inl is) = omega (arith, is)
least_below n [] k (inr i) = absurd i
least_below n (m ∷ ns) k (inl is) = omega (arith, is, least_below (min n m) ns (min n m) (inl refl), min-le_left n m)
least_below n (m ∷ ns) k (inr (inl is)) = omega (arith, is, least_below (min n m) ns (min n m) (inl refl), min-le_right n m)
least_below n (m ∷ ns) k (inr (inr i)) = least_below (min n m) ns k (inr i)

pub least_alike : (xs ys : List ℕ) → AreAlike xs ys → least xs ≡ least ys
least_alike [] [] alike = refl
least_alike [] (y ∷ ys) alike = absurd (alike.back y (inl refl))
least_alike (x ∷ xs) [] alike = absurd (alike.there x (inl refl))
least_alike (x ∷ xs) (y ∷ ys) alike =
    let up : fold min x xs ≤ fold min y ys = least_below x xs (fold min y ys) (alike.back (fold min y ys) (least_among y ys)) in
    let down : fold min y ys ≤ fold min x xs = least_below y ys (fold min x xs) (alike.there (fold min x xs) (least_among x xs)) in
    let same : fold min x xs ≡ fold min y ys = omega (arith, up, down) in
    ap (λ (n : ℕ). Some n) same

-- alike lists of points, ascending, give the same list of values if each point has the same value
pub same_mapped : {P V : Type 0} (cmp : P → P → Ordering) → IsExactOrder cmp → (some others : List P) (f g : P → V) → AreAlike some others → ((p : P) → f p ≡ g p)
    → map f (ascending cmp some) ≡ map g (ascending cmp others)
same_mapped cmp order some others f g alike same =
    map_same f g (ascending cmp some) same ∙ ap (map g) (same_ascending cmp order some others alike.there alike.back)

-- The refused inputs, in ascending order of their places, are only one list.
use Rattle.std.proofs.Common.{◌≡◌, ◌∙◌, inl, inr, ℕ, suc, ◌<◌, ◌≤◌, Bool, cond, List, [], ◌∷◌, ◌++◌, length, map, ap, sym, refl, arith, slice_index_or}
use Rattle.std.proofs.Math.Dec.{eqb}
use Rattle.std.proofs.lemmas.Bool.Decides.{eqb_tells}
use Rattle.std.specs.List.{AllByRecursion}
use Rattle.std.specs.List.Sorted.{IsNonDecreasingBy}
use Rattle.covworkers.specs.declared.refused.RefusedInput.{RefusedInput}
use Rattle.covworkers.specs.Collect.{refusal}
use Rattle.covworkers.proofs.Places.{times}
use Rattle.covworkers.proofs.Taken.{Outcome}

-- no number in the list is greater than a later one
abbrev pub Up : List ℕ → Type 0
Up [] = Unit {0}
Up (x ∷ xs) = AllByRecursion (λ (y : ℕ). x ≤ y) xs × Up xs

least_comes : (x y : ℕ) (ys : List ℕ) → AllByRecursion (λ (z : ℕ). y ≤ z) ys → 0 < times x (y ∷ ys) → y ≤ x
least_comes x y ys above some = elim (eqb_tells x y) [
  | inl (yes_is, same) ↦ omega (arith, same)
  | inr (no_is, differs) ↦ let none : cond (eqb x y) 1 0 ≡ 0 = ap (λ (b : Bool). cond {A = ℕ} b 1 0) no_is in later x y ys above (omega (arith, none, some))
]
  where
    later : (x y : ℕ) (ys : List ℕ) → AllByRecursion (λ (z : ℕ). y ≤ z) ys → 0 < times x ys → y ≤ x
    later x y [] above some = absurd (omega (arith, some))
    later x y (z ∷ ys) above some = elim (eqb_tells x z) [
      | inl (yes_is, same) ↦ omega (arith, same, above.0)
      | inr (no_is, differs) ↦ let none : cond (eqb x z) 1 0 ≡ 0 = ap (λ (b : Bool). cond {A = ℕ} b 1 0) no_is in later x y ys above.1 (omega (arith, none, some))
    ]

comes_first : (x : ℕ) (xs : List ℕ) → 0 < times x (x ∷ xs)
comes_first x xs = elim (eqb_tells x x) [
  | inl (yes_is, same) ↦ let one : cond (eqb x x) 1 0 ≡ 1 = ap (λ (b : Bool). cond {A = ℕ} b 1 0) yes_is in omega (arith, one)
  | inr (no_is, differs) ↦ absurd (differs refl)
]

-- two such lists are equal if each number is in both equally often
pub same_if_as_often : (xs ys : List ℕ) → Up xs → Up ys → ((k : ℕ) → times k xs ≡ times k ys) → xs ≡ ys
same_if_as_often [] [] up ups same = refl
same_if_as_often [] (y ∷ ys) up ups same = absurd (omega (arith, same y, comes_first y ys))
same_if_as_often (x ∷ xs) [] up ups same = absurd (omega (arith, same x, comes_first x xs))
same_if_as_often (x ∷ xs) (y ∷ ys) up ups same =
    let low : y ≤ x = least_comes x y ys ups.0 (omega (arith, same x, comes_first x xs)) in
    let high : x ≤ y = least_comes y x xs up.0 (omega (arith, same y, comes_first y ys)) in
    let is : x ≡ y = omega (arith, low, high) in
    let rest : (k : ℕ) → times k xs ≡ times k ys = λ k. (let whole = same k in let head : cond (eqb k x) 1 0 ≡ cond (eqb k y) 1 0 = ap (λ (n : ℕ). cond {A = ℕ} (eqb k n) 1 0) is in omega (arith, whole, head)) in
    ap (λ (n : ℕ). n ∷ xs) is ∙ ap (λ (zs : List ℕ). y ∷ zs) (same_if_as_often xs ys up.1 ups.1 rest)

abbrev pub places_of : {F : Type 0} → List (RefusedInput F) → List ℕ
places_of {F} inputs = map (λ (r : RefusedInput F). r.index) inputs

-- the refused input has the fault that is the outcome of the input at its place
abbrev pub IsRefusal : {F : Type 0} → (ℕ → Outcome F) → RefusedInput F → Type 0
IsRefusal outcome r = refusal r.index (outcome r.index) ≡ r ∷ []

same_refusal : {F : Type 0} (outcome : ℕ → Outcome F) (a b : RefusedInput F) → IsRefusal outcome a → IsRefusal outcome b → a.index ≡ b.index → a ≡ b
same_refusal outcome a b of_a of_b same = head_is a b (sym of_a ∙ ap (λ (i : ℕ). refusal i (outcome i)) same ∙ of_b)
  where
    head_is : {F : Type 0} (a b : RefusedInput F) → ◌≡◌ {A = List (RefusedInput F)} (a ∷ []) (b ∷ []) → a ≡ b
    head_is a b is = cc

pub one_refused : {F : Type 0} (outcome : ℕ → Outcome F) (some others : List (RefusedInput F)) → AllByRecursion (IsRefusal outcome) some → AllByRecursion (IsRefusal outcome) others → places_of some ≡ places_of others → some ≡ others
one_refused outcome [] [] all alls same = refl
one_refused outcome [] (b ∷ others) all alls same = absurd cc
one_refused outcome (a ∷ some) [] all alls same = absurd cc
one_refused {F} outcome (a ∷ some) (b ∷ others) all alls same =
    ap (λ (r : RefusedInput F). r ∷ some) (same_refusal outcome a b all.0 alls.0 cc) ∙ ap (λ (rs : List (RefusedInput F)). b ∷ rs) (one_refused outcome some others all.1 alls.1 cc)

-- ---- the places of sorted refusals ascend

all_from_places : {F : Type 0} (least : ℕ) (inputs : List (RefusedInput F)) → ((j : ℕ) (d : RefusedInput F) → j < length inputs → least ≤ (slice_index_or inputs j d).index) → AllByRecursion (λ (y : ℕ). least ≤ y) (places_of inputs)
all_from_places least [] above = tt
all_from_places least (r ∷ inputs) above = (above 0 r (omega arith), all_from_places least inputs (λ j d less. above (suc j) d (omega (arith, less))))

pub up_from_sorted : {F : Type 0} (inputs : List (RefusedInput F)) → IsNonDecreasingBy (λ (r : RefusedInput F). r.index) inputs → Up (places_of inputs)
up_from_sorted [] sorted = tt
up_from_sorted (r ∷ inputs) sorted =
    (all_from_places r.index inputs (λ j d less. sorted 0 (suc j) d (omega arith) (omega (arith, less))), up_from_sorted inputs (λ i j d le less. sorted (suc i) (suc j) d (omega (arith, le)) (omega (arith, less))))

-- ---- the places of all refusals, taken place by place, ascend

pub up_after : (xs : List ℕ) (n : ℕ) → Up xs → AllByRecursion (λ (x : ℕ). x < n) xs → Up (xs ++ n ∷ [])
up_after [] n up below = (tt, tt)
up_after (x ∷ xs) n up below = (all_after x xs n up.0 below.0, up_after xs n up.1 below.1)
  where
    all_after : (x : ℕ) (xs : List ℕ) (n : ℕ) → AllByRecursion (λ (y : ℕ). x ≤ y) xs → x < n → AllByRecursion (λ (y : ℕ). x ≤ y) (xs ++ n ∷ [])
    all_after x [] n above less = (omega (arith, less), tt)
    all_after x (y ∷ xs) n above less = (above.0, all_after x xs n above.1 less)

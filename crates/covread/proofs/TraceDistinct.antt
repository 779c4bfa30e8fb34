-- How many different elements a list has.
use Rattle.std.proofs.Common.{◌≡◌, ℕ, ◌+◌, Bool, true, false, cond, ◌||◌, List, [], ◌∷◌, ◌++◌, length, map, refl, sym, ap, ◌∙◌, arith}
use Rattle.std.specs.Cmp.{IsEquivalence}
use Rattle.std.specs.List.{list_any, AllByRecursion, IsDistinct}
use Rattle.std.specs.Set.{distinct_count, unique_keys}
use Rattle.std.proofs.lemmas.List.Folds.{list_any-append}
use Rattle.std.proofs.lemmas.Map.Keys.{IsDistinct-cons}
use Rattle.std.proofs.lemmas.Map.Made.{length-from_keys}
use Rattle.std.proofs.lemmas.Map.Steps.{list_any_congr}
use Rattle.covread.specs.Reads.{distinct}

or_false : (b : Bool) → (b || false) ≡ b
or_false true = refl
or_false false = refl

pub list_any_push : {K : Type 0} (test : K → Bool) (xs : List K) (y : K) → list_any test (xs ++ y ∷ []) ≡ (list_any test xs || test y)
list_any_push test xs y = list_any-append test xs (y ∷ []) ∙ ap (λ (b : Bool). list_any test xs || b) (or_false (test y))

-- ---- one more element

abbrev pub none_if : Bool → ℕ
none_if b = cond b 0 1

distinct_step : (d : ℕ) (a b e : Bool) → (e ≡ true → a ≡ b) → cond (a || e) (d + cond b 0 1) ((d + cond b 0 1) + 1) ≡ cond a d (d + 1) + cond (e || b) 0 1
distinct_step d true true true h = refl
distinct_step d true true false h = refl
distinct_step d true false true h = absurd (let k : true ≡ false = h refl in cc)
distinct_step d true false false h = refl
distinct_step d false true true h = absurd (let k : false ≡ true = h refl in cc)
distinct_step d false true false h = omega arith
distinct_step d false false true h = omega arith
distinct_step d false false false h = omega arith

pub distinct_push : {K : Type 0} {E : K → K → Bool} (laws : IsEquivalence E) (xs : List K) (y : K) → distinct E (xs ++ y ∷ []) ≡ distinct E xs + none_if (list_any (E y) xs)
distinct_push laws [] y = refl
distinct_push {K} {E} laws (x ∷ xs) y =
    ap (λ (b : Bool). cond b (distinct E (xs ++ y ∷ [])) (distinct E (xs ++ y ∷ []) + 1)) (list_any_push (E x) xs y)
    ∙ ap (λ (n : ℕ). cond (list_any (E x) xs || E x y) n (n + 1)) (distinct_push laws xs y)
    ∙ distinct_step (distinct E xs) (list_any (E x) xs) (list_any (E y) xs) (E x y) (list_any_congr laws x y xs)
    ∙ ap (λ (b : Bool). cond (list_any (E x) xs) (distinct E xs) (distinct E xs + 1) + cond (b || list_any (E y) xs) 0 1) (laws.symm x y)

-- ---- the same number by another definition, and of a mapped list

counted : {K : Type 0} (b : Bool) (x : K) (n : ℕ) (ys : List K) → n ≡ length ys → cond b n (n + 1) ≡ length (cond b ys (x ∷ ys))
counted true x n ys h = h
counted false x n ys h = omega (arith, h)

-- std's `distinct_count` is the same number
pub distinct_is_count : {K : Type 0} (E : K → K → Bool) (xs : List K) → distinct E xs ≡ distinct_count E xs
distinct_is_count E [] = refl
distinct_is_count E (x ∷ xs) = counted (list_any (E x) xs) x (distinct E xs) (unique_keys E xs) (distinct_is_count E xs)

pub list_any_on : {J K : Type 0} (f : J → K) (p : K → Bool) (q : J → Bool) → ((x : J) → p (f x) ≡ q x) → (xs : List J) → list_any p (map f xs) ≡ list_any q xs
list_any_on f p q h [] = refl
list_any_on f p q h (x ∷ xs) = ap (λ (b : Bool). b || list_any p (map f xs)) (h x) ∙ ap (λ (b : Bool). q x || b) (list_any_on f p q h xs)

-- a list has as many different elements after `f` was applied to each, if `f` gives equal results exactly for equal elements
pub distinct_on : {J K : Type 0} (f : J → K) (E : K → K → Bool) (F : J → J → Bool) → ((x y : J) → E (f x) (f y) ≡ F x y) → (xs : List J) → distinct E (map f xs) ≡ distinct F xs
distinct_on f E F h [] = refl
distinct_on f E F h (x ∷ xs) =
    ap (λ (b : Bool). cond b (distinct E (map f xs)) (distinct E (map f xs) + 1)) (list_any_on f (E (f x)) (F x) (h x) xs)
    ∙ ap (λ (n : ℕ). cond (list_any (F x) xs) n (n + 1)) (distinct_on f E F h xs)

-- ---- lists with the same elements

kept_any : {K : Type 0} {E : K → K → Bool} (laws : IsEquivalence E) (q : K) (xs : List K) → list_any (E q) (unique_keys E xs) ≡ list_any (E q) xs
kept_any laws q [] = refl
kept_any {K} {E} laws q (x ∷ xs) = by (list_any (E x) xs) refl (E q x) refl (kept_any laws q xs)
  where
    by : (b : Bool) → list_any (E x) xs ≡ b → (e : Bool) → E q x ≡ e → list_any (E q) (unique_keys E xs) ≡ list_any (E q) xs → list_any (E q) (cond b (unique_keys E xs) (x ∷ unique_keys E xs)) ≡ (E q x || list_any (E q) xs)
    by true h true k rest = rest ∙ list_any_congr laws q x xs k ∙ h ∙ sym (ap (λ (c : Bool). c || list_any (E q) xs) k)
    by true h false k rest = rest ∙ sym (ap (λ (c : Bool). c || list_any (E q) xs) k)
    by false h e k rest = ap (λ (c : Bool). E q x || c) rest

apart_all : {K : Type 0} (E : K → K → Bool) (x : K) (ks : List K) → list_any (E x) ks ≡ false → AllByRecursion (λ y. E x y ≡ false) ks
apart_all E x [] h = tt
apart_all {K} E x (k ∷ ks) h = by (E x k) refl h (λ rest. apart_all E x ks rest)
  where
    by : (b : Bool) → E x k ≡ b → (b || list_any (E x) ks) ≡ false → (list_any (E x) ks ≡ false → AllByRecursion (λ y. E x y ≡ false) ks) → AllByRecursion (λ y. E x y ≡ false) (k ∷ ks)
    by true e h rest = absurd cc
    by false e h rest = (e, rest h)

distinct_nil : {K : Type 0} (E : K → K → Bool) → IsDistinct E []
unfolding IsDistinct
distinct_nil E = tt

unique_apart : {K : Type 0} {E : K → K → Bool} (laws : IsEquivalence E) (xs : List K) → IsDistinct E (unique_keys E xs)
unique_apart {K} {E} laws [] = distinct_nil E
unique_apart {K} {E} laws (x ∷ xs) = by (list_any (E x) xs) refl (unique_apart laws xs)
  where
    by : (b : Bool) → list_any (E x) xs ≡ b → IsDistinct E (unique_keys E xs) → IsDistinct E (cond b (unique_keys E xs) (x ∷ unique_keys E xs))
    by true h rest = rest
    by false h rest = IsDistinct-cons E x (unique_keys E xs) (apart_all E x (unique_keys E xs) (kept_any laws x xs ∙ h)) rest

-- two lists have equally many different elements if each has all elements of the other
pub distinct_members : {K : Type 0} {E : K → K → Bool} (laws : IsEquivalence E) (xs ys : List K) → ((q : K) → list_any (E q) xs ≡ list_any (E q) ys) → distinct E xs ≡ distinct E ys
distinct_members {K} {E} laws xs ys same =
    distinct_is_count E xs ∙ length-from_keys laws (unique_keys E xs) ys (unique_apart laws xs) (λ q. kept_any laws q xs ∙ same q) ∙ sym (distinct_is_count E ys)

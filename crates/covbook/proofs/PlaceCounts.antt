-- Lists of numbers in which no number comes twice: which numbers are in a list, and how many of them are below a number.
use Rattle.std.proofs.Common.{◌≡◌, ℕ, zero, suc, ◌+◌, ◌<◌, ◌≤◌, Bool, true, false, cond, eqb, ltb, List, [], ◌∷◌, ◌++◌, length, map, sym, refl, ap, ◌∙◌, inl, inr, subst, ⊎_elim, arith}
use Rattle.std.specs.Prelude.{◌⊎◌, slice_index_or}
use Rattle.std.specs.List.{AllByRecursion, AllWithin, Contains}
use Rattle.std.specs.List.Sorted.{IsNonDecreasingBy}
use Rattle.std.proofs.lemmas.Bool.{cases_eq, cases_order, lt-ltb, le-ltb, eq-eqb, ne_eqb}
use Rattle.covbook.specs.Gather.{Rise}
use Rattle.covbook.specs.GatherSteps.{below, times}

-- ---- all elements

pub all_weaker : {X : Type 0} (P Q : X → Type 0) → ((x : X) → P x → Q x) → (xs : List X) → AllByRecursion P xs → AllByRecursion Q xs
all_weaker P Q f [] a = tt
all_weaker P Q f (x ∷ xs) a = (f x a.0, all_weaker P Q f xs a.1)

pub all_both : {X : Type 0} (P Q : X → Type 0) (xs : List X) → AllByRecursion P xs → AllByRecursion Q xs → AllByRecursion (λ (x : X). P x × Q x) xs
all_both P Q [] a b = tt
all_both P Q (x ∷ xs) a b = ((a.0, b.0), all_both P Q xs a.1 b.1)

pub all_any : {X : Type 0} (P : X → Type 0) → ((x : X) → P x) → (xs : List X) → AllByRecursion P xs
all_any P f [] = tt
all_any P f (x ∷ xs) = (f x, all_any P f xs)

pub all_joined : {X : Type 0} (P : X → Type 0) (xs ys : List X) → AllByRecursion P xs → AllByRecursion P ys → AllByRecursion P (xs ++ ys)
all_joined P [] ys a b = b
all_joined P (x ∷ xs) ys a b = (a.0, all_joined P xs ys a.1 b)

pub all_before : {X : Type 0} (P : X → Type 0) (xs ys : List X) → AllByRecursion P (xs ++ ys) → AllByRecursion P xs
all_before P [] ys a = tt
all_before P (x ∷ xs) ys a = (a.0, all_before P xs ys a.1)

pub all_after : {X : Type 0} (P : X → Type 0) (xs ys : List X) → AllByRecursion P (xs ++ ys) → AllByRecursion P ys
all_after P [] ys a = a
all_after P (x ∷ xs) ys a = all_after P xs ys a.1

pub all_mapped : {X Y : Type 0} (P : Y → Type 0) (f : X → Y) (xs : List X) → AllByRecursion (λ (x : X). P (f x)) xs → AllByRecursion P (map f xs)
all_mapped P f [] a = tt
all_mapped P f (x ∷ xs) a = (a.0, all_mapped P f xs a.1)

pub all_unmapped : {X Y : Type 0} (P : Y → Type 0) (f : X → Y) (xs : List X) → AllByRecursion P (map f xs) → AllByRecursion (λ (x : X). P (f x)) xs
all_unmapped P f [] a = tt
all_unmapped P f (x ∷ xs) a = (a.0, all_unmapped P f xs a.1)

pub all_at : {X : Type 0} (P : X → Type 0) (xs : List X) (i : ℕ) (d : X) → AllByRecursion P xs → i < length xs → P (slice_index_or xs i d)
all_at P [] i d a within = absurd (omega (arith, within))
all_at P (x ∷ xs) zero d a within = a.0
all_at P (x ∷ xs) (suc i) d a within = all_at P xs i d a.1 (omega (arith, within))

-- ---- which numbers are in a list

abbrev pub In : ℕ → List ℕ → Type 0
In x [] = ⊥
In x (y ∷ ys) = (y ≡ x) ⊎ In x ys

pub In-from : (xs : List ℕ) (x : ℕ) → Contains xs x → In x xs
In-from [] x h = absurd (omega (arith, h.1))
In-from (y ∷ ys) x (zero, lt, is) = inl is
In-from (y ∷ ys) x (suc k, lt, is) = inr (In-from ys x (k, omega (arith, lt), is))

pub Contains-from : (xs : List ℕ) (x : ℕ) → In x xs → Contains xs x
Contains-from [] x h = absurd h
Contains-from (y ∷ ys) x (inl e) = (0, omega arith, e)
Contains-from (y ∷ ys) x (inr h) = let w = Contains-from ys x h in (suc w.0, omega (arith, w.1), w.2)

pub In-parts : (xs ys : List ℕ) (x : ℕ) → In x (xs ++ ys) → In x xs ⊎ In x ys
In-parts [] ys x h = inr h
In-parts (z ∷ xs) ys x (inl e) = inl (inl e)
In-parts (z ∷ xs) ys x (inr h) = ⊎_elim (λ i. inl (inr i)) (λ i. inr i) (In-parts xs ys x h)

pub In-all : (P : ℕ → Type 0) (xs : List ℕ) (x : ℕ) → AllByRecursion P xs → In x xs → P x
In-all P [] x a h = absurd h
In-all P (y ∷ ys) x a (inl e) = subst P e a.0
In-all P (y ∷ ys) x a (inr h) = In-all P ys x a.1 h

-- ---- how often a number comes

times_head : (b : Bool) (n : ℕ) → b ≡ true → cond b 1 0 + n ≡ 1 + n
times_head b n e = ap (λ (t : Bool). cond t 1 0 + n) e

times_other : (b : Bool) (n : ℕ) → b ≡ false → cond b 1 0 + n ≡ n
times_other b n e = ap (λ (t : Bool). cond t 1 0 + n) e ∙ omega arith

times_more : (a b : ℕ) → 1 ≤ b → 1 ≤ a + b
times_more a b h = omega (arith, h)

-- a number that is in a list comes there at least once
pub in_times : (xs : List ℕ) (x : ℕ) → In x xs → 1 ≤ times x xs
in_times [] x h = absurd h
in_times (y ∷ ys) x (inl e) = let here : times x (y ∷ ys) ≡ 1 + times x ys = times_head (eqb x y) (times x ys) (eq-eqb x y (sym e)) in omega (arith, here)
in_times (y ∷ ys) x (inr h) = times_more (cond (eqb x y) 1 0) (times x ys) (in_times ys x h)

-- a number that comes at least once is in the list
pub times_in : (xs : List ℕ) (x : ℕ) → 1 ≤ times x xs → In x xs
times_in [] x h = absurd (omega (arith, h))
times_in (y ∷ ys) x h = elim (cases_eq x y) [
  | inl e ↦ inl (sym e)
  | inr other ↦ let e : times x (y ∷ ys) ≡ times x ys = times_other (eqb x y) (times x ys) (ne_eqb x y other) in inr (times_in ys x (omega (arith, h, e)))
]

pub rise_once : (xs : List ℕ) → Rise xs → (x : ℕ) → times x xs ≤ 1
rise_once [] r x = omega arith
rise_once (y ∷ ys) r x = elim (cases_eq x y) [
  | inl e ↦
      let head : times x (y ∷ ys) ≡ 1 + times x ys = times_head (eqb x y) (times x ys) (eq-eqb x y e) in
      elim (cases_order (times x ys) 0) [
        | inl none ↦ omega (arith, head, none)
        | inr some ↦ elim some [
          | inl lt ↦ absurd (omega (arith, lt))
          | inr lt ↦ let above : y < x = In-all (λ (z : ℕ). y < z) ys x r.0 (times_in ys x (omega (arith, lt))) in absurd (omega (arith, above, e))
        ]
      ]
  | inr other ↦
      let same : times x (y ∷ ys) ≡ times x ys = times_other (eqb x y) (times x ys) (ne_eqb x y other) in
      omega (arith, same, rise_once ys r.1 x)
]

-- ---- how many are below a number

below_head : (x m : ℕ) → cond (ltb x (suc m)) 1 0 ≡ cond (ltb x m) 1 0 + cond (eqb m x) 1 0
below_head x m = elim (cases_order x m) [
  | inl e ↦
      ap (λ (t : Bool). cond t 1 0) (lt-ltb x (suc m) (omega (arith, e)))
      ∙ sym (ap (λ (t : Bool). cond t 1 0 + cond (eqb m x) 1 0) (le-ltb x m (omega (arith, e))) ∙ ap (λ (t : Bool). 0 + cond t 1 0) (eq-eqb m x (sym e)))
  | inr other ↦ elim other [
    | inl lt ↦
        ap (λ (t : Bool). cond t 1 0) (lt-ltb x (suc m) (omega (arith, lt)))
        ∙ sym (ap (λ (t : Bool). cond t 1 0 + cond (eqb m x) 1 0) (lt-ltb x m lt) ∙ ap (λ (t : Bool). 1 + cond t 1 0) (ne_eqb m x (λ (e : m ≡ x). omega (arith, e, lt))))
    | inr lt ↦
        ap (λ (t : Bool). cond t 1 0) (le-ltb x (suc m) (omega (arith, lt)))
        ∙ sym (ap (λ (t : Bool). cond t 1 0 + cond (eqb m x) 1 0) (le-ltb x m (omega (arith, lt))) ∙ ap (λ (t : Bool). 0 + cond t 1 0) (ne_eqb m x (λ (e : m ≡ x). omega (arith, e, lt))))
  ]
]

below_sum : (a b c d e f : ℕ) → a ≡ b + c → d ≡ e + f → a + d ≡ (b + e) + (c + f)
below_sum a b c d e f h k = omega (arith, h, k)

pub below_step : (m : ℕ) (xs : List ℕ) → below (suc m) xs ≡ below m xs + times m xs
below_step m [] = refl
below_step m (x ∷ xs) =
    below_sum (cond (ltb x (suc m)) 1 0) (cond (ltb x m) 1 0) (cond (eqb m x) 1 0) (below (suc m) xs) (below m xs) (times m xs) (below_head x m) (below_step m xs)

pub below_none : (xs : List ℕ) → below 0 xs ≡ 0
below_none [] = refl
below_none (x ∷ xs) = times_other (ltb x 0) (below 0 xs) (le-ltb x 0 (omega arith)) ∙ below_none xs

pub below_most : (xs : List ℕ) → ((x : ℕ) → times x xs ≤ 1) → (m : ℕ) → below m xs ≤ m
below_most xs once zero = omega (arith, below_none xs)
below_most xs once (suc m) = omega (arith, below_step m xs, once m, below_most xs once m)

below_other : (m n : ℕ) → m ≤ suc n → (m ≡ suc n → ⊥) → m ≤ n
below_other m n le other = elim (cases_order m (suc n)) [ inl e ↦ absurd (other e) | inr h ↦ elim h [ inl lt ↦ omega (arith, lt) | inr gt ↦ omega (arith, le, gt) ] ]

-- if as many are below a number as there can be, the same holds of each smaller number
pub full_below : (xs : List ℕ) → ((x : ℕ) → times x xs ≤ 1) → (n m : ℕ) → m ≤ n → below n xs ≡ n → below m xs ≡ m
full_below xs once zero m le full = let e : 0 ≡ m = omega (arith, le) in subst (λ (k : ℕ). below k xs ≡ k) e (below_none xs)
full_below xs once (suc n) m le full = elim (cases_eq m (suc n)) [
  | inl e ↦ subst (λ (k : ℕ). below k xs ≡ k) (sym e) full
  | inr other ↦
      let least : below n xs ≡ n = omega (arith, full, below_step n xs, once n, below_most xs once n) in
      full_below xs once n m (below_other m n le other) least
]

pub all_told : (xs : List ℕ) → ((x : ℕ) → times x xs ≤ 1) → (n : ℕ) → below n xs ≡ n → (p : ℕ) → p < n → Contains xs p
all_told xs once n full p lt =
    let here : below (suc p) xs ≡ suc p = full_below xs once n (suc p) (omega (arith, lt)) full in
    Contains-from xs p (times_in xs p (omega (arith, here, below_step p xs, below_most xs once p)))

pub not_told : (xs : List ℕ) (p : ℕ) → below p xs ≡ p → below (suc p) xs < suc p → Contains xs p → ⊥
not_told xs p full fewer there = omega (arith, full, fewer, below_step p xs, in_times xs p (In-from xs p there))

-- ---- elements with a number that rises

pub rise_by : {X : Type 0} (n : X → ℕ) (xs : List X) → Rise (map n xs) → IsNonDecreasingBy n xs
rise_by n [] r i j d le lt = absurd (omega (arith, lt))
rise_by n (x ∷ xs) r zero zero d le lt = omega arith
rise_by n (x ∷ xs) r zero (suc j) d le lt = let above = all_at (λ y. n x < n y) xs j d (all_unmapped (λ (m : ℕ). n x < m) n xs r.0) (omega (arith, lt)) in omega (arith, above)
rise_by n (x ∷ xs) r (suc i) zero d le lt = absurd (omega (arith, le))
rise_by n (x ∷ xs) r (suc i) (suc j) d le lt = rise_by n xs r.1 i j d (omega (arith, le)) (omega (arith, lt))

-- the elements below a number are those before the first that isn't
none_below : {X : Type 0} (n : X → ℕ) (m : ℕ) (xs : List X) → AllWithin (λ (x : X). ltb (n x) m ≡ false) xs 0 (length xs) → below m (map n xs) ≡ 0
none_below n m [] a = refl
none_below n m (x ∷ xs) a =
    times_other (ltb (n x) m) (below m (map n xs)) (a 0 x (omega arith) (omega arith))
    ∙ none_below n m xs (λ k d low high. a (suc k) d (omega arith) (omega (arith, high)))

pub below_point : {X : Type 0} (n : X → ℕ) (m : ℕ) (xs : List X) (i : ℕ) → i ≤ length xs → AllWithin (λ (x : X). ltb (n x) m ≡ true) xs 0 i → AllWithin (λ (x : X). ltb (n x) m ≡ false) xs i (length xs)
    → below m (map n xs) ≡ i
below_point n m [] i within a b = omega (arith, within)
below_point n m (x ∷ xs) zero within a b = none_below n m (x ∷ xs) b
below_point n m (x ∷ xs) (suc i) within a b =
    let head : below m (map n (x ∷ xs)) ≡ 1 + below m (map n xs) = times_head (ltb (n x) m) (below m (map n xs)) (a 0 x (omega arith) (omega arith)) in
    let tail = below_point n m xs i (omega (arith, within)) (λ k d low high. a (suc k) d (omega arith) (omega (arith, high))) (λ k d low high. b (suc k) d (omega (arith, low)) (omega (arith, high))) in
    omega (arith, head, tail)

sum_more : (a b c d : ℕ) → b ≡ c + d → a + b ≡ (a + c) + d
sum_more a b c d h = omega (arith, h)

pub below_append : (m : ℕ) (xs ys : List ℕ) → below m (xs ++ ys) ≡ below m xs + below m ys
below_append m [] ys = omega arith
below_append m (x ∷ xs) ys = sum_more (cond (ltb x m) 1 0) (below m (xs ++ ys)) (below m xs) (below m ys) (below_append m xs ys)

pub times_append : (m : ℕ) (xs ys : List ℕ) → times m (xs ++ ys) ≡ times m xs + times m ys
times_append m [] ys = omega arith
times_append m (x ∷ xs) ys = sum_more (cond (eqb m x) 1 0) (times m (xs ++ ys)) (times m xs) (times m ys) (times_append m xs ys)

pub map_twice : {X Y Z : Type 0} (f : Y → Z) (g : X → Y) (xs : List X) → map f (map g xs) ≡ map (λ (x : X). f (g x)) xs
map_twice f g [] = refl
map_twice {X} {Y} {Z} f g (x ∷ xs) = ap (λ (zs : List Z). f (g x) ∷ zs) (map_twice f g xs)

pub less_from : (a b : ℕ) → a ≤ b → (a ≡ b → ⊥) → a < b
less_from a b le other = elim (cases_order a b) [ inl e ↦ absurd (other e) | inr h ↦ elim h [ inl lt ↦ lt | inr gt ↦ omega (arith, le, gt) ] ]

-- How many items at the front of a list pass a test, as a binary search finds it.
use Rattle.std.proofs.Common.{◌≡◌, ℕ, zero, suc, ◌<◌, ◌≤◌, Bool, true, false, List, [], ◌∷◌, ◌++◌, length, get_or, take, refl, if◌then◌else◌, arith}
use Rattle.std.specs.List.{AllByRecursion}
use Rattle.covmap.specs.Slots.{lead}

-- ---- all of a list

pub all_append : {X : Type 0} (P : X → Type 0) (xs ys : List X) → AllByRecursion P xs → AllByRecursion P ys → AllByRecursion P (xs ++ ys)
all_append P [] ys a b = b
all_append P (x ∷ xs) ys a b = (a.0, all_append P xs ys a.1 b)

pub all_front : {X : Type 0} (P : X → Type 0) (xs ys : List X) → AllByRecursion P (xs ++ ys) → AllByRecursion P xs
all_front P [] ys a = tt
all_front P (x ∷ xs) ys a = (a.0, all_front P xs ys a.1)

pub all_back : {X : Type 0} (P : X → Type 0) (xs ys : List X) → AllByRecursion P (xs ++ ys) → AllByRecursion P ys
all_back P [] ys a = a
all_back P (x ∷ xs) ys a = all_back P xs ys a.1

pub all_weaker : {X : Type 0} (P Q : X → Type 0) (xs : List X) → ((x : X) → P x → Q x) → AllByRecursion P xs → AllByRecursion Q xs
all_weaker P Q [] f a = tt
all_weaker P Q (x ∷ xs) f a = (f x a.0, all_weaker P Q xs f a.1)

pub all_at : {X : Type 0} (P : X → Type 0) (xs : List X) (i : ℕ) (d : X) → AllByRecursion P xs → i < length xs → P (get_or xs i d)
all_at P [] i d a l = absurd (omega arith)
all_at P (x ∷ xs) zero d a l = a.0
all_at P (x ∷ xs) (suc i) d a l = all_at P xs i d a.1 (omega arith)

-- ---- the lead

-- if an item fails the test, so do all items after it
abbrev pub IsFalling : {X : Type 0} → (X → Bool) → List X → Type 0
IsFalling test [] = Unit {0}
IsFalling test (x ∷ xs) = (test x ≡ false → AllByRecursion (λ y. test y ≡ false) xs) × IsFalling test xs

pub lead_le : {X : Type 0} (test : X → Bool) (xs : List X) → lead test xs ≤ length xs
lead_le test [] = omega arith
lead_le test (x ∷ xs) = elim (test x) as (λ b. (if b then suc (lead test xs) else 0) ≤ suc (length xs)) [
  | true ↦ omega (arith, lead_le test xs)
  | false ↦ omega arith
]

lead_passes_at : {X : Type 0} (test : X → Bool) (x : X) (xs : List X) (b : Bool) → test x ≡ b → AllByRecursion (λ y. test y ≡ true) (take (lead test xs) xs)
    → AllByRecursion (λ y. test y ≡ true) (take (if b then suc (lead test xs) else 0) (x ∷ xs))
lead_passes_at test x xs true e a = (e, a)
lead_passes_at test x xs false e a = tt

-- the items of the lead pass
pub lead_passes : {X : Type 0} (test : X → Bool) (xs : List X) → AllByRecursion (λ x. test x ≡ true) (take (lead test xs) xs)
lead_passes test [] = tt
lead_passes test (x ∷ xs) = lead_passes_at test x xs (test x) refl (lead_passes test xs)

-- an item that fails comes after the lead
pub lead_le_failed : {X : Type 0} (test : X → Bool) (xs : List X) (i : ℕ) (d : X) → i < length xs → test (get_or xs i d) ≡ false → lead test xs ≤ i
lead_le_failed test [] i d l e = absurd (omega arith)
lead_le_failed test (x ∷ xs) zero d l e = rw e (omega arith)
lead_le_failed test (x ∷ xs) (suc i) d l e = elim (test x) as (λ b. (if b then suc (lead test xs) else 0) ≤ suc i) [
  | true ↦ omega (arith, lead_le_failed test xs i d (omega arith) e)
  | false ↦ omega arith
]

lead_above_at : {X : Type 0} (test : X → Bool) (xs : List X) (i : ℕ) (d : X) (b : Bool) → (b ≡ false → AllByRecursion (λ y. test y ≡ false) xs) → i < length xs
    → test (get_or xs i d) ≡ true → i < lead test xs → suc i < (if b then suc (lead test xs) else 0)
lead_above_at test xs i d true f l e h = omega arith
lead_above_at test xs i d false f l e h = absurd (let no : test (get_or xs i d) ≡ false = all_at (λ y. test y ≡ false) xs i d (f refl) l in cc)

-- an item that passes is in the lead, if all items after one that fails fail too
pub lead_above_passed : {X : Type 0} (test : X → Bool) (xs : List X) (i : ℕ) (d : X) → IsFalling test xs → i < length xs → test (get_or xs i d) ≡ true → i < lead test xs
lead_above_passed test [] i d f l e = absurd (omega arith)
lead_above_passed test (x ∷ xs) zero d f l e = rw e (omega arith)
lead_above_passed test (x ∷ xs) (suc i) d f l e = lead_above_at test xs i d (test x) f.0 (omega arith) e (lead_above_passed test xs i d f.1 (omega arith) e)

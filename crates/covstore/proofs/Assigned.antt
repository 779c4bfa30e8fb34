-- A key loses its value, or gets another one: the value of each key, the order of the keys, and sums over the pairs.
use Rattle.covstore.proofs.Words.{◌≡◌, ℕ, ◌+◌, Bool, true, false, cond, Option, Some, None, List, [], ◌∷◌, refl, sym, ap, ◌∙◌, subst, ⊎_elim, arith, Ordering, Less, Equal, Greater, AllByRecursion, sum_by, is_eq, cases_Bool, sum_by-cons, tells_apart, ArePairs, value_of, IsExactOrder}
use Rattle.covmap.specs.Assigned.{assigned, without}
use Rattle.covstore.proofs.Puts.{ArePairs-put, at_before, sum_by-put, value_of-put, value_of-put_apart, value_of_before, value_of_later}

-- what is true of one key, and of all that compare as different from it, is true of each key
pub any_key : {K : Type 0} {cmp : K → K → Ordering} → IsExactOrder cmp → (P : K → Type 0) (key : K) → P key → ((other : K) → is_eq (cmp key other) ≡ false → P other) → (other : K) → P other
any_key {K} {cmp} o P key own apart other =
    ⊎_elim (λ (e : is_eq (cmp key other) ≡ true). subst P (tells_apart o.exact key other e) own) (λ (e : is_eq (cmp key other) ≡ false). apart other e) (cases_Bool (is_eq (cmp key other)))

module _ {K V : Type 0} {cmp : K → K → Ordering} (o : IsExactOrder cmp) where
  -- ---- the value of a key

  own_without_at : (b : Bool) (key : K) (pair : K × V) (rest : List (K × V)) → is_eq (cmp pair.0 key) ≡ b → value_of cmp key rest ≡ None → value_of cmp key (cond b rest (pair ∷ rest)) ≡ None
  own_without_at true key pair rest e none = none
  own_without_at false key pair rest e none = value_of_later o key pair rest e ∙ none

  pub own_without : (key : K) (pairs : List (K × V)) → value_of cmp key (without cmp key pairs) ≡ None
  own_without key [] = refl
  own_without key (pair ∷ pairs) = own_without_at (is_eq (cmp pair.0 key)) key pair (without cmp key pairs) refl (own_without key pairs)

  apart_without_at : (b : Bool) (key other : K) (pair : K × V) (pairs rest : List (K × V)) → is_eq (cmp pair.0 key) ≡ b → is_eq (cmp key other) ≡ false → value_of cmp other rest ≡ value_of cmp other pairs
      → value_of cmp other (cond b rest (pair ∷ rest)) ≡ value_of cmp other (pair ∷ pairs)
  apart_without_at true key other pair pairs rest e apart same =
      same ∙ sym (value_of_later o other pair pairs (ap (λ (k : K). is_eq (cmp k other)) (tells_apart o.exact pair.0 key e) ∙ apart))
  apart_without_at false key other pair pairs rest e apart same = ap (λ (later : Option V). cond (is_eq (cmp pair.0 other)) (Some pair.1) later) same

  pub apart_without : (key other : K) (pairs : List (K × V)) → is_eq (cmp key other) ≡ false → value_of cmp other (without cmp key pairs) ≡ value_of cmp other pairs
  apart_without key other [] apart = refl
  apart_without key other (pair ∷ pairs) apart =
      apart_without_at (is_eq (cmp pair.0 key)) key other pair pairs (without cmp key pairs) refl apart (apart_without key other pairs apart)

  pub own_assigned : (key : K) (value : Option V) (pairs : List (K × V)) → value_of cmp key (assigned cmp key value pairs) ≡ value
  own_assigned key None pairs = own_without key pairs
  own_assigned key (Some value) pairs = value_of-put o key value pairs

  pub apart_assigned : (key other : K) (value : Option V) (pairs : List (K × V)) → is_eq (cmp key other) ≡ false → value_of cmp other (assigned cmp key value pairs) ≡ value_of cmp other pairs
  apart_assigned key other None pairs apart = apart_without key other pairs apart
  apart_assigned key other (Some value) pairs apart = value_of-put_apart o key other value pairs apart

  -- ---- the keys stay ascending

  All-without_at : (P : K × V → Type 0) (b : Bool) (pair : K × V) (rest : List (K × V)) → P pair → AllByRecursion P rest → AllByRecursion P (cond b rest (pair ∷ rest))
  All-without_at P true pair rest h all = all
  All-without_at P false pair rest h all = (h, all)

  All-without : (P : K × V → Type 0) (key : K) (pairs : List (K × V)) → AllByRecursion P pairs → AllByRecursion P (without cmp key pairs)
  All-without P key [] all = tt
  All-without P key (pair ∷ pairs) all = All-without_at P (is_eq (cmp pair.0 key)) pair (without cmp key pairs) all.0 (All-without P key pairs all.1)

  pairs_without_at : (b : Bool) (pair : K × V) (rest : List (K × V)) → AllByRecursion (λ next. cmp pair.0 next.0 ≡ Less) rest → ArePairs cmp rest → ArePairs cmp (cond b rest (pair ∷ rest))
  pairs_without_at true pair rest all sorted = sorted
  pairs_without_at false pair rest all sorted = (all, sorted)

  ArePairs-without : (key : K) (pairs : List (K × V)) → ArePairs cmp pairs → ArePairs cmp (without cmp key pairs)
  ArePairs-without key [] sorted = tt
  ArePairs-without key (pair ∷ pairs) sorted =
      pairs_without_at (is_eq (cmp pair.0 key)) pair (without cmp key pairs) (All-without (λ next. cmp pair.0 next.0 ≡ Less) key pairs sorted.0) (ArePairs-without key pairs sorted.1)

  pub ArePairs-assigned : (key : K) (value : Option V) (pairs : List (K × V)) → ArePairs cmp pairs → ArePairs cmp (assigned cmp key value pairs)
  ArePairs-assigned key None pairs sorted = ArePairs-without key pairs sorted
  ArePairs-assigned key (Some value) pairs sorted = ArePairs-put o key value pairs sorted

  -- ---- sums over the pairs

  sum_without_at : (f : K × V → ℕ) (key : K) (pair : K × V) (pairs rest : List (K × V)) (order : Ordering) → cmp pair.0 key ≡ order → AllByRecursion (λ next. cmp pair.0 next.0 ≡ Less) pairs
      → sum_by f rest + at_before f key (value_of cmp key pairs) ≡ sum_by f pairs
      → sum_by f (cond (is_eq order) rest (pair ∷ rest)) + at_before f key (cond (is_eq order) (Some pair.1) (value_of cmp key pairs)) ≡ sum_by f (pair ∷ pairs)
  sum_without_at f key pair pairs rest Less e following same = omega (arith, sum_by-cons f pair rest, sum_by-cons f pair pairs, same)
  sum_without_at f key pair pairs rest Greater e following same = omega (arith, sum_by-cons f pair rest, sum_by-cons f pair pairs, same)
  sum_without_at f key pair pairs rest Equal e following same =
      let here : pair.0 ≡ key = o.exact pair.0 key e in
      let own : f pair ≡ f (key, pair.1) = ap (λ (k : K). f (k, pair.1)) here in
      let none : at_before f key (value_of cmp key pairs) ≡ 0 =
      ap (at_before f key) (value_of_before o key pairs (subst (λ (k : K). AllByRecursion (λ (next : K × V). cmp k next.0 ≡ Less) pairs) here following)) in
      omega (arith, sum_by-cons f pair pairs, same, own, none)

  sum_without : (f : K × V → ℕ) (key : K) (pairs : List (K × V)) → ArePairs cmp pairs → sum_by f (without cmp key pairs) + at_before f key (value_of cmp key pairs) ≡ sum_by f pairs
  sum_without f key [] sorted = omega arith
  sum_without f key (pair ∷ pairs) sorted = sum_without_at f key pair pairs (without cmp key pairs) (cmp pair.0 key) refl sorted.0 (sum_without f key pairs sorted.1)

  -- in a sum over the pairs, what the key's old value adds is replaced by what its new one adds. A key without a value adds 0
  pub sum_assigned : (f : K × V → ℕ) (key : K) (value : Option V) (pairs : List (K × V)) → ArePairs cmp pairs
      → sum_by f (assigned cmp key value pairs) + at_before f key (value_of cmp key pairs) ≡ sum_by f pairs + at_before f key value
  sum_assigned f key None pairs sorted = omega (arith, sum_without f key pairs sorted)
  sum_assigned f key (Some value) pairs sorted = sum_by-put o f key value pairs sorted

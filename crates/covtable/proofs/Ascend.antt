-- The list that `ascending` gives: it ascends, it has the elements of the given list and no others, and it is the only such list.
use Rattle.std.proofs.Common.{◌≡◌, ◌+◌, ◌≤◌, List, [], ◌∷◌, length, refl, sym, ap, ◌∙◌, subst, inl, inr, arith}
use Rattle.std.specs.Prelude.{◌⊎◌}
use Rattle.std.specs.Cmp.{IsTotalOrder}
use Rattle.std.specs.declared.cmp.Ordering.{Ordering}
use Rattle.std.specs.declared.cmp.Ordering.TheVariants.{Less, Equal, Greater}
use Rattle.std.specs.Ordering.{match_ordering, ordering_reverse}
use Rattle.std.specs.List.{AllByRecursion}
use Rattle.std.specs.List.Sorted.{IsStrictlySortedBy}
use Rattle.std.proofs.lemmas.Cmp.{tied_itself}
use Rattle.std.proofs.lemmas.Map.Lookups.{CmpEqualImpliesEq}
use Rattle.covtable.specs.Ascending.{placed, ascending, IsAscendingOf}
use Rattle.covtable.proofs.Members.{In, In-from, Contains-from, All-in}

-- a total order in which only equal values compare as equal
pub record IsExactOrder {X : Type 0} (cmp : X → X → Ordering) : Type 0 where
  pub total : IsTotalOrder cmp
  pub exact : CmpEqualImpliesEq cmp

-- ---- an element added in order

pub All-match : {X : Type 0} (P : X → Type 0) (o : Ordering) (a b c : List X) → AllByRecursion P a → AllByRecursion P b → AllByRecursion P c → AllByRecursion P (match_ordering o a b c)
All-match P Less a b c x y z = x
All-match P Equal a b c x y z = y
All-match P Greater a b c x y z = z

All-placed : {X : Type 0} (cmp : X → X → Ordering) (P : X → Type 0) (x : X) (ys : List X) → P x → AllByRecursion P ys → AllByRecursion P (placed cmp x ys)
All-placed cmp P x [] h all = (h, tt)
All-placed cmp P x (y ∷ ys) h all =
    All-match P (cmp x y) (x ∷ y ∷ ys) (y ∷ ys) (y ∷ placed cmp x ys) (h, all) all (all.0, All-placed cmp P x ys h all.1)

pub All-weaker : {X : Type 0} (P Q : X → Type 0) (ys : List X) → ((y : X) → P y → Q y) → AllByRecursion P ys → AllByRecursion Q ys
All-weaker P Q [] f all = tt
All-weaker P Q (y ∷ ys) f all = (f y all.0, All-weaker P Q ys f all.1)

pub flips : {X : Type 0} {cmp : X → X → Ordering} → IsTotalOrder cmp → (x y : X) → cmp x y ≡ Greater → cmp y x ≡ Less
flips o x y e = o.antisymm y x ∙ ap ordering_reverse e

placed_sorted_at : {X : Type 0} {cmp : X → X → Ordering} → IsTotalOrder cmp → (x y : X) (ys zs : List X) (o : Ordering) → cmp x y ≡ o → IsStrictlySortedBy cmp (y ∷ ys)
    → IsStrictlySortedBy cmp zs → (cmp y x ≡ Less → AllByRecursion (λ z. cmp y z ≡ Less) zs) → IsStrictlySortedBy cmp (match_ordering o (x ∷ y ∷ ys) (y ∷ ys) (y ∷ zs))
unfolding IsStrictlySortedBy
placed_sorted_at {X} {cmp} t x y ys zs Less e s r f = ((e, All-weaker (λ z. cmp y z ≡ Less) (λ z. cmp x z ≡ Less) ys (λ z l. t.trans x y z e l) s.0), s)
placed_sorted_at t x y ys zs Equal e s r f = s
placed_sorted_at t x y ys zs Greater e s r f = (f (flips t x y e), r)

placed_sorted : {X : Type 0} {cmp : X → X → Ordering} → IsTotalOrder cmp → (x : X) (ys : List X) → IsStrictlySortedBy cmp ys → IsStrictlySortedBy cmp (placed cmp x ys)
unfolding IsStrictlySortedBy
placed_sorted t x [] s = (tt, tt)
placed_sorted {X} {cmp} t x (y ∷ ys) s =
    placed_sorted_at t x y ys (placed cmp x ys) (cmp x y) refl s (placed_sorted t x ys s.1) (λ l. All-placed cmp (λ z. cmp y z ≡ Less) x ys l s.0)

pub ascending_sorted : {X : Type 0} {cmp : X → X → Ordering} → IsTotalOrder cmp → (xs : List X) → IsStrictlySortedBy cmp (ascending cmp xs)
unfolding IsStrictlySortedBy
ascending_sorted t [] = tt
ascending_sorted {X} {cmp} t (x ∷ xs) = placed_sorted t x (ascending cmp xs) (ascending_sorted t xs)

pub sorted_none : {X : Type 0} (cmp : X → X → Ordering) → IsStrictlySortedBy cmp []
unfolding IsStrictlySortedBy
sorted_none cmp = tt

pub sorted_one : {X : Type 0} (cmp : X → X → Ordering) (x : X) → IsStrictlySortedBy cmp (x ∷ [])
unfolding IsStrictlySortedBy
sorted_one cmp x = (tt, tt)

-- ---- its elements

In-placed_at : {X : Type 0} {cmp : X → X → Ordering} → CmpEqualImpliesEq cmp → (z x y : X) (ys zs : List X) (o : Ordering) → cmp x y ≡ o
    → (In z zs → (x ≡ z) ⊎ In z ys) → In z (match_ordering o (x ∷ y ∷ ys) (y ∷ ys) (y ∷ zs)) → (x ≡ z) ⊎ In z (y ∷ ys)
In-placed_at ex z x y ys zs Less e f h = h
In-placed_at ex z x y ys zs Equal e f h = inr h
In-placed_at ex z x y ys zs Greater e f (inl h) = inr (inl h)
In-placed_at ex z x y ys zs Greater e f (inr h) = elim (f h) [ inl a ↦ inl a | inr b ↦ inr (inr b) ]

In-placed : {X : Type 0} {cmp : X → X → Ordering} → CmpEqualImpliesEq cmp → (z x : X) (ys : List X) → In z (placed cmp x ys) → (x ≡ z) ⊎ In z ys
In-placed ex z x [] h = h
In-placed {X} {cmp} ex z x (y ∷ ys) h = In-placed_at ex z x y ys (placed cmp x ys) (cmp x y) refl (In-placed ex z x ys) h

In-to_placed_at : {X : Type 0} {cmp : X → X → Ordering} → CmpEqualImpliesEq cmp → (z x y : X) (ys zs : List X) (o : Ordering) → cmp x y ≡ o
    → ((x ≡ z) ⊎ In z ys → In z zs) → (x ≡ z) ⊎ In z (y ∷ ys) → In z (match_ordering o (x ∷ y ∷ ys) (y ∷ ys) (y ∷ zs))
In-to_placed_at ex z x y ys zs Less e f h = h
In-to_placed_at ex z x y ys zs Equal e f (inl h) = inl (sym (ex x y e) ∙ h)
In-to_placed_at ex z x y ys zs Equal e f (inr h) = h
In-to_placed_at ex z x y ys zs Greater e f (inl h) = inr (f (inl h))
In-to_placed_at ex z x y ys zs Greater e f (inr (inl h)) = inl h
In-to_placed_at ex z x y ys zs Greater e f (inr (inr h)) = inr (f (inr h))

In-to_placed : {X : Type 0} {cmp : X → X → Ordering} → CmpEqualImpliesEq cmp → (z x : X) (ys : List X) → (x ≡ z) ⊎ In z ys → In z (placed cmp x ys)
In-to_placed ex z x [] h = h
In-to_placed {X} {cmp} ex z x (y ∷ ys) h = In-to_placed_at ex z x y ys (placed cmp x ys) (cmp x y) refl (In-to_placed ex z x ys) h

pub In-ascending : {X : Type 0} {cmp : X → X → Ordering} → CmpEqualImpliesEq cmp → (z : X) (xs : List X) → In z (ascending cmp xs) → In z xs
In-ascending ex z [] h = h
In-ascending {X} {cmp} ex z (x ∷ xs) h = elim (In-placed ex z x (ascending cmp xs) h) [ inl e ↦ inl e | inr i ↦ inr (In-ascending ex z xs i) ]

pub In-to_ascending : {X : Type 0} {cmp : X → X → Ordering} → CmpEqualImpliesEq cmp → (z : X) (xs : List X) → In z xs → In z (ascending cmp xs)
In-to_ascending ex z [] h = h
In-to_ascending {X} {cmp} ex z (x ∷ xs) (inl e) = In-to_placed ex z x (ascending cmp xs) (inl e)
In-to_ascending {X} {cmp} ex z (x ∷ xs) (inr i) = In-to_placed ex z x (ascending cmp xs) (inr (In-to_ascending ex z xs i))

pub ascending_is : {X : Type 0} {cmp : X → X → Ordering} → IsExactOrder cmp → (xs : List X) → IsAscendingOf cmp xs (ascending cmp xs)
ascending_is {X} {cmp} o xs = record {
  sorted = ascending_sorted o.total xs;
  members = λ x. (λ h. Contains-from xs x (In-ascending o.exact x xs (In-from (ascending cmp xs) x h)), λ h. Contains-from (ascending cmp xs) x (In-to_ascending o.exact x xs (In-from xs x h)));
}

-- ---- there is only one such list

pub not_itself : {X : Type 0} {cmp : X → X → Ordering} → IsTotalOrder cmp → (x : X) → cmp x x ≡ Less → ⊥
not_itself {X} {cmp} t x e = let i = tied_itself t x in cc

same_head : {X : Type 0} {cmp : X → X → Ordering} → IsTotalOrder cmp → (x y : X) (xs ys : List X) → AllByRecursion (λ z. cmp x z ≡ Less) xs → AllByRecursion (λ z. cmp y z ≡ Less) ys
    → In x (y ∷ ys) → In y (x ∷ xs) → x ≡ y
same_head {X} {cmp} t x y xs ys a b (inl e) j = sym e
same_head {X} {cmp} t x y xs ys a b (inr i) (inl e) = e
same_head {X} {cmp} t x y xs ys a b (inr i) (inr j) =
    absurd (not_itself t x (t.trans x y x (All-in (λ z. cmp x z ≡ Less) xs y a j) (All-in (λ z. cmp y z ≡ Less) ys x b i)))

not_head : {X : Type 0} {cmp : X → X → Ordering} → IsTotalOrder cmp → (x z : X) (xs ys : List X) → AllByRecursion (λ z. cmp x z ≡ Less) xs → In z xs → In z (x ∷ ys) → In z ys
not_head {X} {cmp} t x z xs ys a i (inl e) = absurd (not_itself t x (subst (λ (w : X). cmp x w ≡ Less) (sym e) (All-in (λ z. cmp x z ≡ Less) xs z a i)))
not_head t x z xs ys a i (inr h) = h

pub one_sorted : {X : Type 0} {cmp : X → X → Ordering} → IsTotalOrder cmp → (xs ys : List X) → IsStrictlySortedBy cmp xs → IsStrictlySortedBy cmp ys → ((z : X) → In z xs → In z ys) → ((z : X) → In z ys → In z xs) → xs ≡ ys
unfolding IsStrictlySortedBy
one_sorted t [] [] s r f g = refl
one_sorted t [] (y ∷ ys) s r f g = absurd (g y (inl refl))
one_sorted t (x ∷ xs) [] s r f g = absurd (f x (inl refl))
one_sorted {X} {cmp} t (x ∷ xs) (y ∷ ys) s r f g =
    let e : x ≡ y = same_head t x y xs ys s.0 r.0 (f x (inl refl)) (g y (inl refl)) in
    let others : xs ≡ ys = one_sorted t xs ys s.1 r.1
    (λ z i. not_head t x z xs ys s.0 i (subst (λ (w : X). In z (w ∷ ys)) (sym e) (f z (inr i))))
    (λ z i. not_head t y z ys xs r.0 i (subst (λ (w : X). In z (w ∷ xs)) e (g z (inr i)))) in
    cc

pub one_ascending : {X : Type 0} {cmp : X → X → Ordering} → IsExactOrder cmp → (xs ys zs : List X) → IsAscendingOf cmp xs ys → IsAscendingOf cmp xs zs → ys ≡ zs
one_ascending o xs ys zs a b =
    one_sorted o.total ys zs a.sorted b.sorted
    (λ z i. In-from zs z ((b.members z).1 ((a.members z).0 (Contains-from ys z i))))
    (λ z i. In-from ys z ((a.members z).1 ((b.members z).0 (Contains-from zs z i))))

-- ---- how many elements it has

length-placed_at : {X : Type 0} (o : Ordering) (x y : X) (ys zs : List X) → length zs ≤ length ys + 1 → length (match_ordering o (x ∷ y ∷ ys) (y ∷ ys) (y ∷ zs)) ≤ length ys + 2
length-placed_at Less x y ys zs h = omega arith
length-placed_at Equal x y ys zs h = omega arith
length-placed_at Greater x y ys zs h = omega arith

length-placed : {X : Type 0} (cmp : X → X → Ordering) (x : X) (ys : List X) → length (placed cmp x ys) ≤ length ys + 1
length-placed cmp x [] = omega arith
length-placed cmp x (y ∷ ys) = omega (arith, length-placed_at (cmp x y) x y ys (placed cmp x ys) (length-placed cmp x ys))

pub length-ascending : {X : Type 0} (cmp : X → X → Ordering) (xs : List X) → length (ascending cmp xs) ≤ length xs
length-ascending cmp [] = omega arith
length-ascending cmp (x ∷ xs) = omega (arith, length-placed cmp x (ascending cmp xs), length-ascending cmp xs)

-- Lists: elements of joined and filtered lists, conditions on elements, and the length of a list of points.
use Rattle.std.proofs.Common.{◌≡◌, Bool, true, false, ◌||◌, cond, List, [], ◌∷◌, map, filter, refl, sym, ap, ◌∙◌, subst, inl, inr, ⊎_elim}
use Rattle.std.specs.Prelude.{◌⊎◌}
use Rattle.std.specs.declared.cmp.Ordering.{Ordering}
use Rattle.std.specs.declared.cmp.Ordering.TheVariants.{Less, Equal, Greater}
use Rattle.std.specs.List.{flat_map, list_any}
use Rattle.std.proofs.lemmas.Bool.{cond-false, cond-true, false≢true, or_left, or_right}
use Rattle.std.proofs.lemmas.Cmp.{tied_itself}
use Rattle.covtable.proofs.Ascend.{IsExactOrder}
use Rattle.covtable.proofs.Members.{In, In-joined, In-parts}

-- ---- elements

-- what `f` gives for an element of a list is in the joined list
pub In-flat : {X Y : Type 0} (f : X → List Y) (xs : List X) (x : X) (y : Y) → In x xs → In y (f x) → In y (flat_map f xs)
In-flat f [] x y i j = absurd i
In-flat {X} {Y} f (z ∷ xs) x y (inl e) j = In-joined (f z) (flat_map f xs) y (inl (subst (λ (w : X). In y (f w)) (sym e) j))
In-flat f (z ∷ xs) x y (inr i) j = In-joined (f z) (flat_map f xs) y (inr (In-flat f xs x y i j))

pub In-unflat : {X Y : Type 0} (f : X → List Y) (xs : List X) (y : Y) → In y (flat_map f xs) → (x : X) × In x xs × In y (f x)
In-unflat f [] y i = absurd i
In-unflat {X} {Y} f (z ∷ xs) y i =
    ⊎_elim {C = (x : X) × In x (z ∷ xs) × In y (f x)}
    (λ (j : In y (f z)). (z, inl refl, j))
    (λ (j : In y (flat_map f xs)). let found = In-unflat f xs y j in (found.0, inr found.1, found.2))
    (In-parts (f z) (flat_map f xs) y i)

pub In-filter : {X : Type 0} (p : X → Bool) (xs : List X) (x : X) → In x xs → p x ≡ true → In x (filter p xs)
In-filter p [] x i e = absurd i
In-filter {X} p (y ∷ ys) x (inl is) e =
    subst (In x) (sym (cond-true (p y) (y ∷ filter p ys) (filter p ys) (subst (λ (z : X). p z ≡ true) (sym is) e))) (inl is)
In-filter {X} p (y ∷ ys) x (inr i) e = by (p y) refl (In-filter p ys x i e)
  where
    by : (b : Bool) → p y ≡ b → In x (filter p ys) → In x (cond (p y) (y ∷ filter p ys) (filter p ys))
    by true is there = subst (In x) (sym (cond-true (p y) (y ∷ filter p ys) (filter p ys) is)) (inr there)
    by false is there = subst (In x) (sym (cond-false (p y) (y ∷ filter p ys) (filter p ys) is)) there

pub In-unfilter : {X : Type 0} (p : X → Bool) (xs : List X) (x : X) → In x (filter p xs) → In x xs × (p x ≡ true)
In-unfilter p [] x i = absurd i
In-unfilter {X} p (y ∷ ys) x i = by (p y) refl (λ j. In-unfilter p ys x j)
  where
    passed : p y ≡ true → (In x (filter p ys) → In x ys × (p x ≡ true)) → In x (y ∷ filter p ys) → In x (y ∷ ys) × (p x ≡ true)
    passed is others (inl same) = (inl same, subst (λ (z : X). p z ≡ true) same is)
    passed is others (inr there) = let found = others there in (inr found.0, found.1)

    by : (b : Bool) → p y ≡ b → (In x (filter p ys) → In x ys × (p x ≡ true)) → In x (y ∷ ys) × (p x ≡ true)
    by true is others = passed is others (subst (In x) (cond-true (p y) (y ∷ filter p ys) (filter p ys) is) i)
    by false is others = let found = others (subst (In x) (cond-false (p y) (y ∷ filter p ys) (filter p ys) is) i) in (inr found.0, found.1)

-- in an exact order, a value is an element of a list, or it isn't
module _ {X : Type 0} (cmp : X → X → Ordering) (order : IsExactOrder cmp) where
  pub same_or_not : (x y : X) (o : Ordering) → cmp x y ≡ o → (x ≡ y) ⊎ (x ≡ y → ⊥)
  same_or_not x y Less e = inr (λ (is : x ≡ y). let tied = tied_itself order.total x in let less : cmp x x ≡ Less = subst (λ (z : X). cmp x z ≡ Less) (sym is) e in cc)
  same_or_not x y Equal e = inl (order.exact x y e)
  same_or_not x y Greater e = inr (λ (is : x ≡ y). let tied = tied_itself order.total x in let greater : cmp x x ≡ Greater = subst (λ (z : X). cmp x z ≡ Greater) (sym is) e in cc)

  pub In-or_not : (x : X) (xs : List X) → In x xs ⊎ (In x xs → ⊥)
  In-or_not x [] = inr (λ i. i)
  In-or_not x (y ∷ ys) = by (same_or_not y x (cmp y x) refl) (In-or_not x ys)
    where
      by : (y ≡ x) ⊎ (y ≡ x → ⊥) → In x ys ⊎ (In x ys → ⊥) → In x (y ∷ ys) ⊎ (In x (y ∷ ys) → ⊥)
      by (inl is) there = inl (inl is)
      by (inr other) (inl there) = inl (inr there)
      by (inr other) (inr none) = inr (λ i. ⊎_elim other none i)

-- ---- conditions on elements

pub any_from_in : {X : Type 0} (p : X → Bool) (xs : List X) (x : X) → In x xs → p x ≡ true → list_any p xs ≡ true
any_from_in p [] x i h = absurd i
any_from_in p (y ∷ ys) x (inl is) h = or_left (p y) (list_any p ys) (ap p is ∙ h)
any_from_in p (y ∷ ys) x (inr i) h = or_right (p y) (list_any p ys) (any_from_in p ys x i h)

in_from_one : {X : Type 0} (b : Bool) (p : X → Bool) (y : X) (ys : List X) → p y ≡ b → (list_any p ys ≡ true → (x : X) × In x ys × (p x ≡ true)) → (b || list_any p ys) ≡ true → (x : X) × In x (y ∷ ys) × (p x ≡ true)
in_from_one true p y ys e rest h = (y, inl refl, e)
in_from_one false p y ys e rest h = let found = rest h in (found.0, inr found.1, found.2)

pub in_from_any : {X : Type 0} (p : X → Bool) (xs : List X) → list_any p xs ≡ true → (x : X) × In x xs × (p x ≡ true)
in_from_any p [] h = absurd (false≢true h)
in_from_any p (y ∷ ys) h = in_from_one (p y) p y ys refl (in_from_any p ys) h

pub same_truth : (a b : Bool) → (a ≡ true → b ≡ true) → (b ≡ true → a ≡ true) → a ≡ b
same_truth true b to from = sym (to refl)
same_truth false true to from = from refl
same_truth false false to from = refl

-- if two lists have the same elements, a condition that some element of one list meets is met by some element of the other
pub any_members : {X : Type 0} (p : X → Bool) (xs ys : List X) → ((x : X) → In x xs → In x ys) → ((x : X) → In x ys → In x xs) → list_any p xs ≡ list_any p ys
any_members p xs ys f g =
    same_truth (list_any p xs) (list_any p ys)
    (λ e. let found = in_from_any p xs e in any_from_in p ys found.0 (f found.0 found.1) found.2)
    (λ e. let found = in_from_any p ys e in any_from_in p xs found.0 (g found.0 found.1) found.2)

pub any-map : {X Y : Type 0} (p : Y → Bool) (f : X → Y) (xs : List X) → list_any p (map f xs) ≡ list_any (λ x. p (f x)) xs
any-map p f [] = refl
any-map p f (x ∷ xs) = ap (λ (b : Bool). p (f x) || b) (any-map p f xs)

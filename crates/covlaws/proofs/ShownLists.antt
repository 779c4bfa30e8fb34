-- Lists in which only one element says or adds anything, and lists with the same elements that are made ascending.
use Rattle.std.proofs.Common.{◌≡◌, ℕ, List, [], ◌∷◌, ◌++◌, map, refl, sym, ap, ◌∙◌, subst, inl, inr, arith}
use Rattle.std.specs.Cmp.{IsTotalOrder}
use Rattle.std.specs.declared.cmp.Ordering.{Ordering}
use Rattle.std.specs.declared.cmp.Ordering.TheVariants.{Less}
use Rattle.std.specs.List.{flat_map, sum_by}
use Rattle.std.specs.List.Sorted.{IsStrictlySortedBy}
use Rattle.std.proofs.lemmas.Cmp.{tied_itself}
use Rattle.std.proofs.lemmas.List.{append-nil}
use Rattle.std.proofs.lemmas.List.Sums.{sum_by-cons}
use Rattle.covtable.specs.Ascending.{ascending}
use Rattle.covtable.proofs.Ascend.{IsExactOrder, In-ascending, In-to_ascending}
use Rattle.covtable.proofs.ContentsKinds.{same_ascending}
use Rattle.covtable.proofs.Members.{In, All-in}

-- ---- lists in which no element adds anything

pub flat_nothing : {X Y : Type 0} (g : X → List Y) (xs : List X) → ((x : X) → In x xs → g x ≡ []) → flat_map g xs ≡ []
flat_nothing g [] none = refl
flat_nothing {X} {Y} g (x ∷ xs) none = ap (λ (ys : List Y). ys ++ flat_map g xs) (none x (inl refl)) ∙ flat_nothing g xs (λ y i. none y (inr i))

pub sum_nothing : {X : Type 0} (f : X → ℕ) (xs : List X) → ((x : X) → In x xs → f x ≡ 0) → sum_by f xs ≡ 0
sum_nothing f [] none = refl
sum_nothing f (x ∷ xs) none = omega (arith, sum_by-cons f x xs, none x (inl refl), sum_nothing f xs (λ y i. none y (inr i)))

-- ---- strictly ascending lists in which only one element adds anything

module _ {P : Type 0} {cmp : P → P → Ordering} (total : IsTotalOrder cmp) where
  less_differs : (p q : P) → cmp p q ≡ Less → q ≡ p → ⊥
  less_differs p q less e =
      let tied = tied_itself total p in
      let own : cmp p p ≡ Less = subst (λ (z : P). cmp p z ≡ Less) e less in
      cc

  -- no later element equals the first
  after_differs : (p : P) (ps : List P) → IsStrictlySortedBy cmp (p ∷ ps) → (q : P) → In q ps → q ≡ p → ⊥
  unfolding IsStrictlySortedBy
  after_differs p ps up q i = less_differs p q (All-in (λ z. cmp p z ≡ Less) ps q up.0 i)

  rest_ascends : (p : P) (ps : List P) → IsStrictlySortedBy cmp (p ∷ ps) → IsStrictlySortedBy cmp ps
  unfolding IsStrictlySortedBy
  rest_ascends p ps up = up.1

  pub flat_one : {Y : Type 0} (g : P → List Y) (ps : List P) (p : P) → IsStrictlySortedBy cmp ps → In p ps → ((q : P) → (q ≡ p → ⊥) → g q ≡ []) → flat_map g ps ≡ g p
  flat_one g [] p up i others = absurd i
  flat_one {Y} g (q ∷ ps) p up (inl is) others =
      ap (λ (ys : List Y). g q ++ ys) (flat_nothing g ps (λ r j. others r (λ e. after_differs q ps up r j (e ∙ sym is))))
      ∙ append-nil (g q) ∙ ap g is
  flat_one {Y} g (q ∷ ps) p up (inr i) others =
      ap (λ (ys : List Y). ys ++ flat_map g ps) (others q (λ e. after_differs q ps up p i (sym e))) ∙ flat_one g ps p (rest_ascends q ps up) i others

  pub sum_one : (f : P → ℕ) (ps : List P) (p : P) → IsStrictlySortedBy cmp ps → In p ps → ((q : P) → (q ≡ p → ⊥) → f q ≡ 0) → sum_by f ps ≡ f p
  sum_one f [] p up i others = absurd i
  sum_one f (q ∷ ps) p up (inl is) others =
      omega (arith, sum_by-cons f q ps, sum_nothing f ps (λ r j. others r (λ e. after_differs q ps up r j (e ∙ sym is))), ap f is)
  sum_one f (q ∷ ps) p up (inr i) others =
      omega (arith, sum_by-cons f q ps, others q (λ e. after_differs q ps up p i (sym e)), sum_one f ps p (rest_ascends q ps up) i others)

-- ---- elements

pub flat_self : {X : Type 0} (xs : List X) → flat_map (λ x. x ∷ []) xs ≡ xs
flat_self [] = refl
flat_self {X} (x ∷ xs) = ap (λ (ys : List X). x ∷ ys) (flat_self xs)

pub map_same_in : {X Y : Type 0} (f g : X → Y) (xs : List X) → ((x : X) → In x xs → f x ≡ g x) → map f xs ≡ map g xs
map_same_in f g [] same = refl
map_same_in {X} {Y} f g (x ∷ xs) same =
    let here : f x ≡ g x = same x (inl refl) in
    let others : map f xs ≡ map g xs = map_same_in f g xs (λ y i. same y (inr i)) in
    cc

-- if a list has the same elements as an ascending list, then made ascending it is that list
pub ascending_again : {X : Type 0} (cmp : X → X → Ordering) → IsExactOrder cmp → (xs ys : List X) → ((x : X) → In x ys → In x (ascending cmp xs)) → ((x : X) → In x (ascending cmp xs) → In x ys) → ascending cmp ys ≡ ascending cmp xs
ascending_again cmp order xs ys there back =
    same_ascending cmp order ys xs (λ x i. In-ascending order.exact x xs (there x i)) (λ x i. back x (In-to_ascending order.exact x xs i))

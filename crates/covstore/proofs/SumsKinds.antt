-- The sums of one kind of points (lines, functions or branches): each point of the items once, ascending, with its value.
use Rattle.covstore.proofs.Words.{◌≡◌, cond, Option, Some, None, List, [], ◌∷◌, ◌++◌, map, refl, sym, ap, ◌∙◌, subst, inl, inr, ⊎_elim, ◌⊎◌, Contains, Ordering, Less, Equal, Greater, AllByRecursion, flat_map, is_eq, tied_itself, flat_map-append, same_Some, none-some, ItemData, ArePairs, put, value_of, IsExactOrder, ascending_sorted, In-ascending, In-to_ascending, In-or_not, In, In-from, In-joined, In-parts}
use Rattle.std.specs.List.Sorted.{IsStrictlySortedBy}
use Rattle.covtable.specs.Ascending.{ascending}
use Rattle.covstore.proofs.Puts.{ArePairs-put, same_pairs, value_of-put, value_of-put_other}

-- ---- points with their values

-- the point and its value
abbrev pub paired : {P V : Type 0} → (P → V) → P → P × V
paired value p = (p, value p)

All-paired : {P V : Type 0} (cmp : P → P → Ordering) (value : P → V) (p : P) (ps : List P) → AllByRecursion (λ next. cmp p next ≡ Less) ps → AllByRecursion (λ next. cmp p next.0 ≡ Less) (map (paired value) ps)
All-paired cmp value p [] all = tt
All-paired cmp value p (q ∷ ps) all = (all.0, All-paired cmp value p ps all.1)

paired_pairs : {P V : Type 0} (cmp : P → P → Ordering) (value : P → V) (ps : List P) → IsStrictlySortedBy cmp ps → ArePairs cmp (map (paired value) ps)
unfolding IsStrictlySortedBy
paired_pairs cmp value [] sorted = tt
paired_pairs cmp value (p ∷ ps) sorted = (All-paired cmp value p ps sorted.0, paired_pairs cmp value ps sorted.1)

if_not : {X : Type 0} (r : Ordering) (x y : X) → (r ≡ Equal → ⊥) → cond (is_eq r) x y ≡ y
if_not Less x y not = refl
if_not Equal x y not = absurd (not refl)
if_not Greater x y not = refl

less_not_equal : Less ≡ Equal → ⊥
less_not_equal e = absurd cc

greater_not_equal : Greater ≡ Equal → ⊥
greater_not_equal e = absurd cc

some_at : {P V : Type 0} {cmp : P → P → Ordering} → IsExactOrder cmp → (value : P → V) (p q : P) (rest : Option V) (r : Ordering) → cmp q p ≡ r → (q ≡ p) ⊎ (rest ≡ Some (value p)) → cond (is_eq r) (Some (value q)) rest ≡ Some (value p)
some_at order value p q rest Equal e h = ap (λ x. Some (value x)) (order.exact q p e)
some_at order value p q rest Less e (inr h) = h
some_at order value p q rest Greater e (inr h) = h
some_at {P} {V} {cmp} order value p q rest Less e (inl is) = absurd (less_not_equal (sym e ∙ ap (λ (x : P). cmp x p) is ∙ tied_itself order.total p))
some_at {P} {V} {cmp} order value p q rest Greater e (inl is) = absurd (greater_not_equal (sym e ∙ ap (λ (x : P). cmp x p) is ∙ tied_itself order.total p))

-- a point of the list has its value
paired_some : {P V : Type 0} {cmp : P → P → Ordering} → IsExactOrder cmp → (value : P → V) (p : P) (ps : List P) → In p ps → value_of cmp p (map (paired value) ps) ≡ Some (value p)
paired_some order value p [] i = absurd i
paired_some {P} {V} {cmp} order value p (q ∷ ps) (inl is) = some_at order value p q (value_of cmp p (map (paired value) ps)) (cmp q p) refl (inl is)
paired_some {P} {V} {cmp} order value p (q ∷ ps) (inr i) = some_at order value p q (value_of cmp p (map (paired value) ps)) (cmp q p) refl (inr (paired_some order value p ps i))

-- any other point has no value
paired_none : {P V : Type 0} {cmp : P → P → Ordering} → IsExactOrder cmp → (value : P → V) (p : P) (ps : List P) → (In p ps → ⊥) → value_of cmp p (map (paired value) ps) ≡ None
paired_none order value p [] none = refl
paired_none {P} {V} {cmp} order value p (q ∷ ps) none =
    if_not (cmp q p) (Some (value q)) (value_of cmp p (map (paired value) ps)) (λ e. none (inl (order.exact q p e)))
    ∙ paired_none order value p ps (λ i. none (inr i))

-- ---- the points of items

-- the points of these items, ascending, each with its value
abbrev pub sums : {P V : Type 0} → (P → P → Ordering) → (ItemData → List P) → (List ItemData → P → V) → List ItemData → List (P × V)
sums cmp point value items = map (paired (value items)) (ascending cmp (flat_map point items))

module _ {P V : Type 0} {cmp : P → P → Ordering} (order : IsExactOrder cmp) (point : ItemData → List P) (value : List ItemData → P → V) where
  pub sums_pairs : (items : List ItemData) → ArePairs cmp (sums cmp point value items)
  sums_pairs items = paired_pairs cmp (value items) (ascending cmp (flat_map point items)) (ascending_sorted order.total (flat_map point items))

  pub sums_some : (items : List ItemData) (p : P) → In p (flat_map point items) → value_of cmp p (sums cmp point value items) ≡ Some (value items p)
  sums_some items p i = paired_some order (value items) p (ascending cmp (flat_map point items)) (In-to_ascending order.exact p (flat_map point items) i)

  pub sums_none : (items : List ItemData) (p : P) → (In p (flat_map point items) → ⊥) → value_of cmp p (sums cmp point value items) ≡ None
  sums_none items p none = paired_none order (value items) p (ascending cmp (flat_map point items)) (λ i. none (In-ascending order.exact p (flat_map point items) i))

  -- ---- one item more

  In-last : (items : List ItemData) (item : ItemData) (p : P) → In p (flat_map point items) ⊎ In p (point item) → In p (flat_map point (items ++ item ∷ []))
  In-last items item p h =
      subst (In p) (sym (flat_map-append point items (item ∷ [])))
      (In-joined (flat_map point items) (flat_map point (item ∷ [])) p (⊎_elim (λ i. inl i) (λ i. inr (In-joined (point item) [] p (inl i))) h))

  In-unlast : (items : List ItemData) (item : ItemData) (p : P) → In p (flat_map point (items ++ item ∷ [])) → In p (flat_map point items) ⊎ In p (point item)
  In-unlast items item p i =
      ⊎_elim (λ j. inl j) (λ j. inr (⊎_elim (λ k. k) (λ k. absurd k) (In-parts (point item) [] p j)))
      (In-parts (flat_map point items) (flat_map point (item ∷ [])) p (subst (In p) (flat_map-append point items (item ∷ [])) i))

  module _ (items : List ItemData) (item : ItemData) (others : (p : P) → (In p (point item) → ⊥) → value (items ++ item ∷ []) p ≡ value items p) where
    -- a point that the item doesn't have keeps its value
    sums_others : (p : P) → (In p (point item) → ⊥) → value_of cmp p (sums cmp point value (items ++ item ∷ [])) ≡ value_of cmp p (sums cmp point value items)
    sums_others p not =
        ⊎_elim
        (λ (i : In p (flat_map point items)). sums_some (items ++ item ∷ []) p (In-last items item p (inl i)) ∙ ap (λ v. Some v) (others p not) ∙ sym (sums_some items p i))
        (λ (none : In p (flat_map point items) → ⊥).
        sums_none (items ++ item ∷ []) p (λ i. ⊎_elim none not (In-unlast items item p i)) ∙ sym (sums_none items p none))
        (In-or_not cmp order p (flat_map point items))

    -- an item without points changes nothing
    pub sums_same : point item ≡ [] → sums cmp point value (items ++ item ∷ []) ≡ sums cmp point value items
    sums_same nothing =
        same_pairs order (sums cmp point value (items ++ item ∷ [])) (sums cmp point value items) (sums_pairs (items ++ item ∷ [])) (sums_pairs items)
        (λ p. sums_others p (λ i. subst (In p) nothing i))

    -- an item with one point puts in a value that is made from the point's value before
    module _ (own : P) (with : Option V → V) (one : point item ≡ own ∷ []) (none : (In own (flat_map point items) → ⊥) → value (items ++ item ∷ []) own ≡ with None)
        (some : In own (flat_map point items) → value (items ++ item ∷ []) own ≡ with (Some (value items own))) where
      own_with : value (items ++ item ∷ []) own ≡ with (value_of cmp own (sums cmp point value items))
      own_with =
          ⊎_elim
          (λ (i : In own (flat_map point items)). some i ∙ ap with (sym (sums_some items own i)))
          (λ (not : In own (flat_map point items) → ⊥). none not ∙ ap with (sym (sums_none items own not)))
          (In-or_not cmp order own (flat_map point items))

      put_own : value_of cmp own (sums cmp point value (items ++ item ∷ [])) ≡ value_of cmp own (put cmp own (with (value_of cmp own (sums cmp point value items))) (sums cmp point value items))
      put_own =
          sums_some (items ++ item ∷ []) own (In-last items item own (inr (subst (In own) (sym one) (inl refl))))
          ∙ ap (λ v. Some v) own_with
          ∙ sym (value_of-put order own (with (value_of cmp own (sums cmp point value items))) (sums cmp point value items))

      only : (p : P) → In p (own ∷ []) → own ≡ p
      only p (inl is) = is
      only p (inr i) = absurd i

      put_each : (p : P) → value_of cmp p (sums cmp point value (items ++ item ∷ [])) ≡ value_of cmp p (put cmp own (with (value_of cmp own (sums cmp point value items))) (sums cmp point value items))
      put_each p =
          let new = with (value_of cmp own (sums cmp point value items)) in
          ⊎_elim
          (λ (i : In p (point item)).
          subst (λ (q : P). value_of cmp q (sums cmp point value (items ++ item ∷ [])) ≡ value_of cmp q (put cmp own new (sums cmp point value items))) (only p (subst (In p) one i)) put_own)
          (λ (not : In p (point item) → ⊥).
          sums_others p not ∙ sym (value_of-put_other order own p new (sums cmp point value items) (λ e. not (subst (In p) (sym one) (inl e)))))
          (In-or_not cmp order p (point item))

      pub sums_put : sums cmp point value (items ++ item ∷ []) ≡ put cmp own (with (value_of cmp own (sums cmp point value items))) (sums cmp point value items)
      sums_put =
          let new = with (value_of cmp own (sums cmp point value items)) in
          same_pairs order (sums cmp point value (items ++ item ∷ [])) (put cmp own new (sums cmp point value items)) (sums_pairs (items ++ item ∷ []))
          (ArePairs-put order own new (sums cmp point value items) (sums_pairs items)) put_each

  -- ---- which points have a value, and which value it is

  pub sums_held : (items : List ItemData) (p : P) (sum : V) → value_of cmp p (sums cmp point value items) ≡ Some sum → In p (flat_map point items) × (value items p ≡ sum)
  sums_held items p sum h =
      ⊎_elim {C = In p (flat_map point items) × (value items p ≡ sum)}
      (λ (i : In p (flat_map point items)). (i, same_Some (value items p) sum (sym (sums_some items p i) ∙ h)))
      (λ (none : In p (flat_map point items) → ⊥). absurd (none-some sum (sym (sums_none items p none) ∙ h)))
      (In-or_not cmp order p (flat_map point items))

  pub sums_known : (items : List ItemData) (p : P) → Contains (flat_map point items) p → value_of cmp p (sums cmp point value items) ≡ Some (value items p)
  sums_known items p there = sums_some items p (In-from (flat_map point items) p there)

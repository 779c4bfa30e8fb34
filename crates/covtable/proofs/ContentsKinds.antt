-- Points in ascending order, each with a value: if two lists of items give the same, they still do after the same items are
-- added.
use Rattle.std.proofs.Common.{◌≡◌, List, [], ◌∷◌, ◌++◌, map, refl, sym, ap, ◌∙◌, subst, inl, inr, ⊎_elim}
use Rattle.std.specs.declared.cmp.Ordering.{Ordering}
use Rattle.covtable.specs.Ascending.{ascending}
use Rattle.covtable.proofs.Ascend.{IsExactOrder, In-ascending, In-to_ascending, one_ascending, ascending_is}
use Rattle.covtable.proofs.ContentsLists.{In-or_not}
use Rattle.covtable.proofs.Members.{In, In-from, Contains-from, In-joined, In-parts}

-- the points of items, and the value that the items give to each. A point that the items don't have has the value that an empty
-- list of items gives. When items are added, the new value is decided by the old value and the added items
pub record IsKind {I P V : Type 0} (cmp : P → P → Ordering) (points : List I → List P) (value : List I → P → V) (point_of : V → P) : Type 0 where
  pub order : IsExactOrder cmp
  pub joins : (xs ys : List I) → points (xs ++ ys) ≡ points xs ++ points ys
  pub own : (xs : List I) (p : P) → point_of (value xs p) ≡ p
  pub absent : (xs : List I) (p : P) → (In p (points xs) → ⊥) → value xs p ≡ value [] p
  pub extends : (xs ys zs : List I) (p : P) → value xs p ≡ value ys p → (In p (points xs) → In p (points ys)) → (In p (points ys) → In p (points xs)) → value (xs ++ zs) p ≡ value (ys ++ zs) p

-- lists with the same elements have the same ascending list
pub same_ascending : {X : Type 0} (cmp : X → X → Ordering) → IsExactOrder cmp → (xs ys : List X) → ((x : X) → In x xs → In x ys) → ((x : X) → In x ys → In x xs) → ascending cmp xs ≡ ascending cmp ys
same_ascending cmp order xs ys there back =
    let left = ascending_is order xs in
    let right = ascending_is order ys in
    one_ascending order xs (ascending cmp xs) (ascending cmp ys) left
    (record {
      sorted = right.sorted;
      members = λ x. (λ h. Contains-from xs x (back x (In-from ys x ((right.members x).0 h))), λ h. (right.members x).1 (Contains-from ys x (there x (In-from xs x h))));
    })

pub map_same : {P V : Type 0} (f g : P → V) (ps : List P) → ((p : P) → f p ≡ g p) → map f ps ≡ map g ps
map_same f g [] same = refl
map_same {P} {V} f g (p ∷ ps) same = let here : f p ≡ g p = same p in let others : map f ps ≡ map g ps = map_same f g ps same in cc

pub map_of_map : {X Y Z : Type 0} (f : X → Y) (g : Y → Z) (h : X → Z) (xs : List X) → ((x : X) → g (f x) ≡ h x) → map g (map f xs) ≡ map h xs
map_of_map f g h [] same = refl
map_of_map {X} {Y} {Z} f g h (x ∷ xs) same = ap (λ (z : Z). z ∷ map g (map f xs)) (same x) ∙ ap (λ (zs : List Z). h x ∷ zs) (map_of_map f g h xs same)

-- if two functions map a list to equal lists, they give the same for each element of the list
same_at : {P V : Type 0} (f g : P → V) (ps : List P) (p : P) → map f ps ≡ map g ps → In p ps → f p ≡ g p
same_at f g [] p e i = absurd i
same_at {P} {V} f g (q ∷ ps) p e (inl is) = let here : f q ≡ g q = cc in ap f (sym is) ∙ here ∙ ap g is
same_at {P} {V} f g (q ∷ ps) p e (inr i) = let others : map f ps ≡ map g ps = cc in same_at f g ps p others i

map_back : {P V : Type 0} (f : P → V) (back : V → P) (ps : List P) → ((p : P) → back (f p) ≡ p) → map back (map f ps) ≡ ps
map_back f back [] own = refl
map_back {P} {V} f back (p ∷ ps) own = let here : back (f p) ≡ p = own p in let others : map back (map f ps) ≡ ps = map_back f back ps own in cc

module _ {I P V : Type 0} (cmp : P → P → Ordering) (points : List I → List P) (value : List I → P → V) (point_of : V → P) (kind : IsKind cmp points value point_of)
    (xs ys : List I) (same : map (value xs) (ascending cmp (points xs)) ≡ map (value ys) (ascending cmp (points ys))) where
  same_points : ascending cmp (points xs) ≡ ascending cmp (points ys)
  same_points =
      sym (map_back (value xs) point_of (ascending cmp (points xs)) (kind.own xs))
      ∙ ap (map point_of) same
      ∙ map_back (value ys) point_of (ascending cmp (points ys)) (kind.own ys)

  point_there : (p : P) → In p (points xs) → In p (points ys)
  point_there p i = In-ascending kind.order.exact p (points ys) (subst (In p) same_points (In-to_ascending kind.order.exact p (points xs) i))

  point_back : (p : P) → In p (points ys) → In p (points xs)
  point_back p i = In-ascending kind.order.exact p (points xs) (subst (In p) (sym same_points) (In-to_ascending kind.order.exact p (points ys) i))

  -- the values of all points are the same, even of points that the items don't have
  pub same_values : (p : P) → value xs p ≡ value ys p
  same_values p =
      ⊎_elim
      (λ (i : In p (points xs)). same_at (value xs) (value ys) (ascending cmp (points xs)) p
      (same ∙ ap (map (value ys)) (sym same_points)) (In-to_ascending kind.order.exact p (points xs) i))
      (λ (none : In p (points xs) → ⊥). kind.absent xs p none ∙ sym (kind.absent ys p (λ i. none (point_back p i))))
      (In-or_not cmp kind.order p (points xs))

  module _ (zs : List I) where
    more_there : (some others : List I) → ((p : P) → In p (points some) → In p (points others)) → (p : P) → In p (points (some ++ zs)) → In p (points (others ++ zs))
    more_there some others there p i =
        subst (In p) (sym (kind.joins others zs))
        (In-joined (points others) (points zs) p (⊎_elim (λ j. inl (there p j)) (λ j. inr j) (In-parts (points some) (points zs) p (subst (In p) (kind.joins some zs) i))))

    more_points : ascending cmp (points (xs ++ zs)) ≡ ascending cmp (points (ys ++ zs))
    more_points = same_ascending cmp kind.order (points (xs ++ zs)) (points (ys ++ zs)) (more_there xs ys point_there) (more_there ys xs point_back)

    pub same_with_more : map (value (xs ++ zs)) (ascending cmp (points (xs ++ zs))) ≡ map (value (ys ++ zs)) (ascending cmp (points (ys ++ zs)))
    same_with_more =
        map_same (value (xs ++ zs)) (value (ys ++ zs)) (ascending cmp (points (xs ++ zs))) (λ p. kind.extends xs ys zs p (same_values p) (point_there p) (point_back p))
        ∙ ap (map (value (ys ++ zs))) more_points

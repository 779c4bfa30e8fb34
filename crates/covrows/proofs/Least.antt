-- The least element above the last one is the first that is left.
use Rattle.std.proofs.Common.{◌≡◌, Bool, true, false, ◌&&◌, cond, List, [], ◌∷◌, ◌++◌, filter, refl, sym, ap, ◌∙◌, subst, inl, inr, ⊎_elim, append_assoc}
use Rattle.std.specs.Prelude.{◌⊎◌, Option, Some, None, option_map}
use Rattle.std.specs.declared.cmp.Ordering.{Ordering}
use Rattle.std.specs.declared.cmp.Ordering.TheVariants.{Less, Equal, Greater}
use Rattle.std.specs.List.Sorted.{IsStrictlySortedBy}
use Rattle.std.specs.Ordering.{is_lt}
use Rattle.std.proofs.lemmas.Bool.{false≢true}
use Rattle.std.proofs.lemmas.Cmp.{tied_itself}
use Rattle.std.proofs.lemmas.List.{append-nil}
use Rattle.covtable.specs.Ascending.{ascending}
use Rattle.covtable.proofs.Ascend.{IsExactOrder, In-ascending, In-to_ascending, ascending_sorted, flips, one_sorted}
use Rattle.covtable.proofs.ContentsLists.{In-filter, In-unfilter}
use Rattle.covtable.proofs.Members.{In, All-from, In-joined, In-parts}
use Rattle.covtable.proofs.WithoutContent.{All-picked}
use Rattle.covrows.specs.Above.{is_above, is_below, left_above, lesser, least_of, IsNextAbove}

less_is : (o : Ordering) → is_lt o ≡ true → o ≡ Less
less_is Less e = refl
less_is Equal e = absurd (false≢true e)
less_is Greater e = absurd (false≢true e)

sorted_picked : {X : Type 0} (cmp : X → X → Ordering) (p : X → Bool) (xs : List X) → IsStrictlySortedBy cmp xs → IsStrictlySortedBy cmp (filter p xs)
unfolding IsStrictlySortedBy
sorted_picked cmp p [] sorted = tt
sorted_picked {X} cmp p (x ∷ xs) sorted = by (p x) (sorted_picked cmp p xs sorted.1)
  where
    by : (b : Bool) → IsStrictlySortedBy cmp (filter p xs) → IsStrictlySortedBy cmp (cond b (x ∷ filter p xs) (filter p xs))
    by true rest = (All-picked (λ z. cmp x z ≡ Less) p xs sorted.0, rest)
    by false rest = rest

none_picked : {X : Type 0} (p : X → Bool) (xs : List X) → ((x : X) → In x xs → p x ≡ false) → filter p xs ≡ []
none_picked p [] none = refl
none_picked {X} p (x ∷ xs) none = ap (λ (b : Bool). cond b (x ∷ filter p xs) (filter p xs)) (none x (inl refl)) ∙ none_picked p xs (λ y i. none y (inr i))

pub all_picked : {X : Type 0} (p : X → Bool) → ((x : X) → p x ≡ true) → (xs : List X) → filter p xs ≡ xs
all_picked p all [] = refl
all_picked {X} p all (x ∷ xs) = ap (λ (b : Bool). cond b (x ∷ filter p xs) (filter p xs)) (all x) ∙ ap (λ (ys : List X). x ∷ ys) (all_picked p all xs)

-- above nothing, the whole list is left
pub left_whole : {X : Type 0} (cmp : X → X → Ordering) (xs : List X) → left_above cmp None xs ≡ ascending cmp xs
left_whole cmp xs = all_picked (is_above cmp None) (λ x. refl) (ascending cmp xs)

-- `least` is the least of the elements of `xs` above `last`
abbrev IsLeast : {X : Type 0} → (X → X → Ordering) → Option X → List X → Option X → Type 0
IsLeast {X} cmp last xs None = (x : X) → In x xs → is_above cmp last x ≡ false
IsLeast {X} cmp last xs (Some m) = In m xs × (is_above cmp last m ≡ true) × ((x : X) → In x xs → is_above cmp last x ≡ true → is_lt (cmp x m) ≡ false)

module _ {X : Type 0} (cmp : X → X → Ordering) (o : IsExactOrder cmp) (last : Option X) where
  not_below_itself : (x : X) → is_lt (cmp x x) ≡ false
  not_below_itself x = ap is_lt (tied_itself o.total x)

  not_above : (b : Bool) → b ≡ false → b ≡ true → ⊥
  not_above b none some = false≢true (sym none ∙ some)

  above_too : (last : Option X) (m z : X) → is_above cmp last m ≡ true → cmp m z ≡ Less → is_above cmp last z ≡ true
  above_too None m z above less = refl
  above_too (Some l) m z above less = ap is_lt (o.total.trans l m z (less_is (cmp l m) above) less)

  -- ---- one more element

  least_step : (seen : List X) (x : X) (least : Option X) → IsLeast cmp last seen least → IsLeast cmp last (seen ++ x ∷ []) (lesser cmp last least x)
  least_step seen x None is = by (is_above cmp last x) refl
    where
      by : (b : Bool) → is_above cmp last x ≡ b → IsLeast cmp last (seen ++ x ∷ []) (cond (b && true) (Some x) None)
      by true e = (
        In-joined seen (x ∷ []) x (inr (inl refl)),
        e,
        λ y i above. ⊎_elim {C = is_lt (cmp y x) ≡ false}
            (λ (j : In y seen). absurd (not_above (is_above cmp last y) (is y j) above))
            (λ (j : In y (x ∷ [])). ⊎_elim {C = is_lt (cmp y x) ≡ false} (λ (same : x ≡ y). subst (λ (z : X). is_lt (cmp z x) ≡ false) same (not_below_itself x)) (λ (none : ⊥). absurd none) j)
            (In-parts seen (x ∷ []) y i),
      )
      by false e = λ y i. ⊎_elim {C = is_above cmp last y ≡ false}
          (λ (j : In y seen). is y j)
          (λ (j : In y (x ∷ [])). ⊎_elim {C = is_above cmp last y ≡ false} (λ (same : x ≡ y). subst (λ (z : X). is_above cmp last z ≡ false) same e) (λ (none : ⊥). absurd none) j)
          (In-parts seen (x ∷ []) y i)
  least_step seen x (Some m) is = by (is_above cmp last x) (is_lt (cmp x m)) refl refl
    where
      not_less_than : (y : X) → is_lt (cmp y m) ≡ false → cmp x m ≡ Less → is_lt (cmp y x) ≡ false
      not_less_than y below less = at (is_lt (cmp y x)) refl
        where
          at : (b : Bool) → is_lt (cmp y x) ≡ b → b ≡ false
          at false e = refl
          at true e = absurd (not_above (is_lt (cmp y m)) below (ap is_lt (o.total.trans y x m (less_is (cmp y x) e) less)))

      kept : (is_above cmp last x ≡ true → is_lt (cmp x m) ≡ false) → IsLeast cmp last (seen ++ x ∷ []) (Some m)
      kept own = (
        In-joined seen (x ∷ []) m (inl is.0),
        is.1,
        λ y i above. ⊎_elim {C = is_lt (cmp y m) ≡ false}
            (λ (j : In y seen). is.2 y j above)
            (λ (j : In y (x ∷ [])). ⊎_elim {C = is_lt (cmp y m) ≡ false} (λ (same : x ≡ y). subst (λ (z : X). is_lt (cmp z m) ≡ false) same (own (subst (λ (z : X). is_above cmp last z ≡ true) (sym same) above))) (λ (none : ⊥). absurd none) j)
            (In-parts seen (x ∷ []) y i),
      )

      by : (b c : Bool) → is_above cmp last x ≡ b → is_lt (cmp x m) ≡ c → IsLeast cmp last (seen ++ x ∷ []) (cond (b && c) (Some x) (Some m))
      by true true e less = (
        In-joined seen (x ∷ []) x (inr (inl refl)),
        e,
        λ y i above. ⊎_elim {C = is_lt (cmp y x) ≡ false}
            (λ (j : In y seen). not_less_than y (is.2 y j above) (less_is (cmp x m) less))
            (λ (j : In y (x ∷ [])). ⊎_elim {C = is_lt (cmp y x) ≡ false} (λ (same : x ≡ y). subst (λ (z : X). is_lt (cmp z x) ≡ false) same (not_below_itself x)) (λ (none : ⊥). absurd none) j)
            (In-parts seen (x ∷ []) y i),
      )
      by true false e less = kept (λ above. less)
      by false c e less = kept (λ above. absurd (not_above (is_above cmp last x) e above))

  least_from : (seen xs : List X) (least : Option X) → IsLeast cmp last seen least → IsLeast cmp last (seen ++ xs) (least_of cmp last least xs)
  least_from seen [] least is = subst (λ (ys : List X). IsLeast cmp last ys least) (sym (append-nil seen)) is
  least_from seen (x ∷ xs) least is =
      subst (λ (ys : List X). IsLeast cmp last ys (least_of cmp last least (x ∷ xs))) (append_assoc seen (x ∷ []) xs)
      (least_from (seen ++ x ∷ []) xs (lesser cmp last least x) (least_step seen x least is))

  none_yet : IsLeast cmp last [] None
  none_yet x i = absurd i

  -- ---- the first of those that are left

  unless_less : (z m : X) (r : Ordering) → cmp z m ≡ r → is_lt (cmp z m) ≡ false → (z ≡ m) ⊎ (cmp m z ≡ Less)
  unless_less z m Less e below = absurd (not_above (is_lt (cmp z m)) below (ap is_lt e))
  unless_less z m Equal e below = inl (o.exact z m e)
  unless_less z m Greater e below = inr (flips o.total z m e)

  next_from : (xs : List X) (least : Option X) → IsLeast cmp last xs least → IsNextAbove cmp last xs least
  unfolding IsStrictlySortedBy
  next_from xs None is = none_picked (is_above cmp last) (ascending cmp xs) (λ x i. is x (In-ascending o.exact x xs i))
  next_from xs (Some m) is =
      one_sorted o.total (left_above cmp last xs) (m ∷ left_above cmp (Some m) xs)
      (sorted_picked cmp (is_above cmp last) (ascending cmp xs) (ascending_sorted o.total xs)) (
        All-from (λ z. cmp m z ≡ Less) (left_above cmp (Some m) xs) (λ z i. less_is (cmp m z) (In-unfilter (is_above cmp (Some m)) (ascending cmp xs) z i).1),
        sorted_picked cmp (is_above cmp (Some m)) (ascending cmp xs) (ascending_sorted o.total xs),
      )
      (λ z i.
      let own = In-unfilter (is_above cmp last) (ascending cmp xs) z i in
      ⊎_elim {C = In z (m ∷ left_above cmp (Some m) xs)}
      (λ (same : z ≡ m). inl (sym same))
      (λ (less : cmp m z ≡ Less). inr (In-filter (is_above cmp (Some m)) (ascending cmp xs) z own.0 (ap is_lt less)))
      (unless_less z m (cmp z m) refl (is.2 z (In-ascending o.exact z xs own.0) own.1)))
      (λ z i.
      ⊎_elim {C = In z (left_above cmp last xs)}
      (λ (same : m ≡ z). subst (λ (y : X). In y (left_above cmp last xs)) same (In-filter (is_above cmp last) (ascending cmp xs) m (In-to_ascending o.exact m xs is.0) is.1))
      (λ (j : In z (left_above cmp (Some m) xs)).
      let own = In-unfilter (is_above cmp (Some m)) (ascending cmp xs) z j in
      In-filter (is_above cmp last) (ascending cmp xs) z own.0 (above_too last m z is.1 (less_is (cmp m z) own.1)))
      i)

  -- the least of all elements above the last one is the first that is left
  pub next_least : (xs : List X) (least : Option X) → least ≡ least_of cmp last None xs → IsNextAbove cmp last xs least
  next_least xs least is = subst (IsNextAbove cmp last xs) (sym is) (next_from xs (least_of cmp last None xs) (least_from [] xs None none_yet))

-- what a function that keeps the order makes of the lesser one
pub lesser_seen : {X Y : Type 0} (f : X → Y) (cmp : X → X → Ordering) (other : Y → Y → Ordering) → ((a b : X) → cmp a b ≡ other (f a) (f b)) → (last least : Option X) (next : X)
    → option_map f (lesser cmp last least next) ≡ lesser other (option_map f last) (option_map f least) (f next)
lesser_seen {X} {Y} f cmp other keeps last least next =
    seen (is_above cmp last next && is_below cmp next least) ∙ (λ i. cond (above last i && below least i) (Some (f next)) (option_map f least))
  where
    above : (last : Option X) → is_above cmp last next ≡ is_above other (option_map f last) (f next)
    above None = refl
    above (Some l) = ap is_lt (keeps l next)

    below : (least : Option X) → is_below cmp next least ≡ is_below other (f next) (option_map f least)
    below None = refl
    below (Some m) = ap is_lt (keeps next m)

    seen : (b : Bool) → option_map f (cond b (Some next) least) ≡ cond b (Some (f next)) (option_map f least)
    seen true = refl
    seen false = refl

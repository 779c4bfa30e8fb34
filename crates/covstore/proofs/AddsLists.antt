-- Ascending keys with values: the position of a key, and a value that replaces another one. And first clashes of joined lists.
use Rattle.covstore.proofs.Words.{◌≡◌, cond, Option, Some, None, List, [], ◌∷◌, ◌++◌, length, refl, sym, ap, ◌∙◌, append_assoc, arith, Ordering, Less, Equal, Greater, AllByRecursion, find, is_eq, match_ordering, tied_itself, none-some, same_Some, Checksum, ClashData, clash_with, differs, first_clash, or_later, is_new, one_if, ArePairs, put, value_of, IsExactOrder, All-weaker, flips}
use Rattle.std.proofs.lemmas.List.{append-nil}
use Rattle.covstore.proofs.Puts.{length-put, same_pair, value_of_before}

-- ---- the position of a key

-- `pairs` has this key and value between a front and a back. `pairs_with` gives the same list with another value for the key
pub record IsPlaceOf {K V : Type 0} (key : K) (value : V) (pairs : List (K × V)) (pairs_with : V → List (K × V)) : Type 0 where
  pub front : List (K × V)
  pub back : List (K × V)
  pub place : pairs ≡ front ++ (key, value) ∷ back
  pub after : (other : V) → pairs_with other ≡ front ++ (key, other) ∷ back

module _ {K V : Type 0} {cmp : K → K → Ordering} (o : IsExactOrder cmp) where
  place_at : (key : K) (value : V) (pair : K × V) (pairs : List (K × V)) (order : Ordering) → cmp pair.0 key ≡ order → AllByRecursion (λ next. cmp pair.0 next.0 ≡ Less) pairs
      → (value_of cmp key pairs ≡ Some value → IsPlaceOf key value pairs (λ other. put cmp key other pairs)) → cond (is_eq order) (Some pair.1) (value_of cmp key pairs) ≡ Some value
      → IsPlaceOf key value (pair ∷ pairs) (λ other. match_ordering order (pair ∷ put cmp key other pairs) ((key, other) ∷ pairs) ((key, other) ∷ pair ∷ pairs))
  place_at key value pair pairs Less e following rest h =
      let later = rest h in
      record {
        front = pair ∷ later.front;
        back = later.back;
        place = ap (λ (ps : List (K × V)). pair ∷ ps) later.place;
        after = λ other. ap (λ (ps : List (K × V)). pair ∷ ps) (later.after other);
      }
  place_at key value pair pairs Equal e following rest h =
      record { front = []; back = pairs; place = ap (λ (p : K × V). p ∷ pairs) (same_pair (o.exact pair.0 key e) (same_Some pair.1 value h)); after = λ other. refl }
  place_at key value pair pairs Greater e following rest h =
      let first : cmp key pair.0 ≡ Less = flips o.total pair.0 key e in
      let none : value_of cmp key pairs ≡ None =
      value_of_before o key pairs (All-weaker (λ next. cmp pair.0 next.0 ≡ Less) (λ next. cmp key next.0 ≡ Less) pairs (λ next l. o.total.trans key pair.0 next.0 first l) following) in
      absurd (none-some value (sym none ∙ h))

  pub place_of : (key : K) (value : V) (pairs : List (K × V)) → ArePairs cmp pairs → value_of cmp key pairs ≡ Some value → IsPlaceOf key value pairs (λ other. put cmp key other pairs)
  place_of key value [] sorted h = absurd (none-some value h)
  place_of key value (pair ∷ pairs) sorted h = place_at key value pair pairs (cmp pair.0 key) refl sorted.0 (place_of key value pairs sorted.1) h

  -- putting in the value that a key already has changes nothing
  pub put_there : (key : K) (value : V) (pairs : List (K × V)) → ArePairs cmp pairs → value_of cmp key pairs ≡ Some value → put cmp key value pairs ≡ pairs
  put_there key value pairs sorted h = let is = place_of key value pairs sorted h in is.after value ∙ sym is.place

  pub length-put_there : (key : K) (value other : V) (pairs : List (K × V)) → ArePairs cmp pairs → value_of cmp key pairs ≡ Some value → length (put cmp key other pairs) ≡ length pairs
  length-put_there key value other pairs sorted h =
      let none : one_if (is_new (value_of cmp key pairs)) ≡ 0 = ap (λ (value : Option V). one_if (is_new value)) h in
      omega (arith, length-put o key other pairs sorted, none)

  -- ---- a value put in after another one for the same key

  put_first : (key : K) (value other : V) (pairs : List (K × V)) → put cmp key other ((key, value) ∷ pairs) ≡ (key, other) ∷ pairs
  put_first key value other pairs =
      ap (λ (order : Ordering). match_ordering order ((key, value) ∷ put cmp key other pairs) ((key, other) ∷ pairs) ((key, other) ∷ (key, value) ∷ pairs)) (tied_itself o.total key)

  put_twice_at : (key : K) (value other : V) (pair : K × V) (pairs : List (K × V)) (order : Ordering) → cmp pair.0 key ≡ order → put cmp key other (put cmp key value pairs) ≡ put cmp key other pairs
      → put cmp key other (match_ordering order (pair ∷ put cmp key value pairs) ((key, value) ∷ pairs) ((key, value) ∷ pair ∷ pairs))
      ≡ match_ordering order (pair ∷ put cmp key other pairs) ((key, other) ∷ pairs) ((key, other) ∷ pair ∷ pairs)
  put_twice_at key value other pair pairs Less e rest =
      let more = put cmp key value pairs in
      ap (λ (order : Ordering). match_ordering order (pair ∷ put cmp key other more) ((key, other) ∷ more) ((key, other) ∷ pair ∷ more)) e ∙ ap (λ (ps : List (K × V)). pair ∷ ps) rest
  put_twice_at key value other pair pairs Equal e rest = put_first key value other pairs
  put_twice_at key value other pair pairs Greater e rest = put_first key value other (pair ∷ pairs)

  pub put_twice : (key : K) (value other : V) (pairs : List (K × V)) → put cmp key other (put cmp key value pairs) ≡ put cmp key other pairs
  put_twice key value other [] = put_first key value other []
  put_twice key value other (pair ∷ pairs) = put_twice_at key value other pair pairs (cmp pair.0 key) refl (put_twice key value other pairs)

-- ---- the first clash of joined lists

joined_at : (x : Checksum) (found : Option Checksum) (front whole back : Option ClashData) → (front ≡ None → whole ≡ back) → or_later x found front ≡ None → or_later x found whole ≡ back
joined_at x (Some other) front whole back rest none = absurd (none-some (clash_with x other) (sym none))
joined_at x None front whole back rest none = rest none

-- if the first list doesn't clash, the clash of both is that of the second list, with the first one held too
pub clash_after : (held xs ys : List Checksum) → first_clash held xs ≡ None → first_clash held (xs ++ ys) ≡ first_clash (held ++ xs) ys
clash_after held [] ys none = ap (λ (all : List Checksum). first_clash all ys) (sym (append-nil held))
clash_after held (x ∷ xs) ys none =
    joined_at x (find (differs x) held) (first_clash (held ++ x ∷ []) xs) (first_clash (held ++ x ∷ []) (xs ++ ys)) (first_clash (held ++ x ∷ xs) ys)
    (λ later. clash_after (held ++ x ∷ []) xs ys later ∙ ap (λ (all : List Checksum). first_clash all ys) (append_assoc held (x ∷ []) xs)) none

front_at : (x : Checksum) (found : Option Checksum) (front whole : Option ClashData) (clash : ClashData) → (front ≡ Some clash → whole ≡ Some clash) → or_later x found front ≡ Some clash
    → or_later x found whole ≡ Some clash
front_at x (Some other) front whole clash rest h = h
front_at x None front whole clash rest h = rest h

-- if the first list clashes, its clash is the clash of both
pub clash_before : (held xs ys : List Checksum) (clash : ClashData) → first_clash held xs ≡ Some clash → first_clash held (xs ++ ys) ≡ Some clash
clash_before held [] ys clash h = absurd (none-some clash h)
clash_before held (x ∷ xs) ys clash h =
    front_at x (find (differs x) held) (first_clash (held ++ x ∷ []) xs) (first_clash (held ++ x ∷ []) (xs ++ ys)) clash (λ later. clash_before (held ++ x ∷ []) xs ys clash later) h

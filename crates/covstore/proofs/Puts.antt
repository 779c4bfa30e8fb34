-- Ascending keys with values: the value of a key, what putting in a value changes, and that the values of all keys decide the
-- list.
use Rattle.covstore.proofs.Words.{◌≡◌, ℕ, ◌+◌, Bool, true, false, cond, Option, Some, None, List, [], ◌∷◌, length, refl, sym, ap, ◌∙◌, subst, inl, inr, ⊎_elim, arith, Ordering, Less, Equal, Greater, AllByRecursion, sum_by, is_eq, match_ordering, ordering_reverse, cases_Bool, cond-true, cond-false, false_from_ne_true, on_total, tied_itself, sum_by-cons, tells_apart, none-some, same_Some, is_above_at, is_new, one_if, value_of, put, ArePairs, IsExactOrder, All-match, All-weaker, flips, one_sorted, In, All-in}
use Rattle.std.specs.List.{count_by}
use Rattle.std.specs.List.Sorted.{IsStrictlySortedBy}
use Rattle.std.specs.Option.{is_some}
use Rattle.covstore.proofs.TotalsCounts.{one_each}

-- what a key with this value, if any, adds to a sum over pairs; 0 if it has no value
abbrev pub at_before : {K V : Type 0} → (K × V → ℕ) → K → Option V → ℕ
at_before f key None = 0
at_before f key (Some value) = f (key, value)

pub counted_one : (b : Bool) → cond {A = ℕ} b 1 0 ≡ one_if b
counted_one true = refl
counted_one false = refl

pub same_pair : {K V : Type 0} {key other : K} {value committed : V} → key ≡ other → value ≡ committed → ◌≡◌ {A = K × V} (key, value) (other, committed)
same_pair keys values = λ i. (keys i, values i)

module _ {K V : Type 0} {cmp : K → K → Ordering} (o : IsExactOrder cmp) where
  -- ---- the value of a key

  pub value_of_first : (key : K) (value : V) (pairs : List (K × V)) → value_of cmp key ((key, value) ∷ pairs) ≡ Some value
  value_of_first key value pairs = ap (λ (order : Ordering). cond (is_eq order) (Some value) (value_of cmp key pairs)) (tied_itself o.total key)

  pub value_of_later : (key : K) (pair : K × V) (pairs : List (K × V)) → is_eq (cmp pair.0 key) ≡ false → value_of cmp key (pair ∷ pairs) ≡ value_of cmp key pairs
  value_of_later key pair pairs e = cond-false (is_eq (cmp pair.0 key)) (Some pair.1) (value_of cmp key pairs) e

  -- a key before all others has no value
  pub value_of_before : (key : K) (pairs : List (K × V)) → AllByRecursion (λ next. cmp key next.0 ≡ Less) pairs → value_of cmp key pairs ≡ None
  value_of_before key [] following = refl
  value_of_before key (pair ∷ pairs) following =
      value_of_later key pair pairs (ap is_eq (o.total.antisymm pair.0 key ∙ ap ordering_reverse following.0)) ∙ value_of_before key pairs following.1

  -- a look-up finds only what is there
  pair_in_at : (key : K) (value : V) (pair : K × V) (pairs : List (K × V)) (order : Ordering) → cmp pair.0 key ≡ order → (value_of cmp key pairs ≡ Some value → In (key, value) pairs)
      → cond (is_eq order) (Some pair.1) (value_of cmp key pairs) ≡ Some value → In (key, value) (pair ∷ pairs)
  pair_in_at key value pair pairs Less e rest h = inr (rest h)
  pair_in_at key value pair pairs Equal e rest h = inl (same_pair (o.exact pair.0 key e) (same_Some pair.1 value h))
  pair_in_at key value pair pairs Greater e rest h = inr (rest h)

  pub pair_in : (key : K) (value : V) (pairs : List (K × V)) → value_of cmp key pairs ≡ Some value → In (key, value) pairs
  pair_in key value [] h = absurd (none-some value h)
  pair_in key value (pair ∷ pairs) h = pair_in_at key value pair pairs (cmp pair.0 key) refl (pair_in key value pairs) h

  some_in_at : (equal : Bool) (value : V) (rest : Option V) → is_some rest ≡ true → is_some (cond equal (Some value) rest) ≡ true
  some_in_at true value rest e = refl
  some_in_at false value rest e = e

  -- a key with a pair has a value
  pub some_in : (key : K) (value : V) (pairs : List (K × V)) → In (key, value) pairs → is_some (value_of cmp key pairs) ≡ true
  some_in key value [] i = absurd i
  some_in key value (pair ∷ pairs) (inl e) = ap (λ (first : K × V). is_some (value_of cmp key (first ∷ pairs))) e ∙ ap is_some (value_of_first key value pairs)
  some_in key value (pair ∷ pairs) (inr i) = some_in_at (is_eq (cmp pair.0 key)) pair.1 (value_of cmp key pairs) (some_in key value pairs i)

  -- in ascending pairs, the value of a key with a pair is the value of that pair
  pub value_of_pair : (key : K) (value : V) (pairs : List (K × V)) → ArePairs cmp pairs → In (key, value) pairs → value_of cmp key pairs ≡ Some value
  value_of_pair key value [] sorted i = absurd i
  value_of_pair key value (pair ∷ pairs) sorted (inl e) = ap (λ (first : K × V). value_of cmp key (first ∷ pairs)) e ∙ value_of_first key value pairs
  value_of_pair key value (pair ∷ pairs) sorted (inr i) =
      value_of_later key pair pairs (ap is_eq (All-in (λ (next : K × V). cmp pair.0 next.0 ≡ Less) pairs (key, value) sorted.0 i)) ∙ value_of_pair key value pairs sorted.1 i

  -- ---- the values of all keys decide the list

  sorted_pairs : (pairs : List (K × V)) → ArePairs cmp pairs → IsStrictlySortedBy (λ (a b : K × V). cmp a.0 b.0) pairs
  unfolding IsStrictlySortedBy
  sorted_pairs [] sorted = tt
  sorted_pairs (pair ∷ pairs) sorted = (sorted.0, sorted_pairs pairs sorted.1)

  members_from : (pairs others : List (K × V)) → ArePairs cmp pairs → ((key : K) → value_of cmp key pairs ≡ value_of cmp key others) → (pair : K × V) → In pair pairs → In pair others
  members_from pairs others sorted same pair i = pair_in pair.0 pair.1 others (sym (same pair.0) ∙ value_of_pair pair.0 pair.1 pairs sorted i)

  pub same_pairs : (pairs others : List (K × V)) → ArePairs cmp pairs → ArePairs cmp others → ((key : K) → value_of cmp key pairs ≡ value_of cmp key others) → pairs ≡ others
  same_pairs pairs others sorted ordered same =
      one_sorted (on_total (λ (pair : K × V). pair.0) o.total) pairs others (sorted_pairs pairs sorted) (sorted_pairs others ordered)
      (members_from pairs others sorted same) (members_from others pairs ordered (λ key. sym (same key)))

  -- ---- a value put in

  value_of-put_at : (key : K) (value : V) (pair : K × V) (pairs : List (K × V)) (order : Ordering) → cmp pair.0 key ≡ order → value_of cmp key (put cmp key value pairs) ≡ Some value
      → value_of cmp key (match_ordering order (pair ∷ put cmp key value pairs) ((key, value) ∷ pairs) ((key, value) ∷ pair ∷ pairs)) ≡ Some value
  value_of-put_at key value pair pairs Less e rest = value_of_later key pair (put cmp key value pairs) (ap is_eq e) ∙ rest
  value_of-put_at key value pair pairs Equal e rest = value_of_first key value pairs
  value_of-put_at key value pair pairs Greater e rest = value_of_first key value (pair ∷ pairs)

  pub value_of-put : (key : K) (value : V) (pairs : List (K × V)) → value_of cmp key (put cmp key value pairs) ≡ Some value
  value_of-put key value [] = value_of_first key value []
  value_of-put key value (pair ∷ pairs) = value_of-put_at key value pair pairs (cmp pair.0 key) refl (value_of-put key value pairs)

  value_of-put_apart_at : (key other : K) (value : V) (pair : K × V) (pairs : List (K × V)) (order : Ordering) → cmp pair.0 key ≡ order → is_eq (cmp key other) ≡ false
      → value_of cmp other (put cmp key value pairs) ≡ value_of cmp other pairs
      → value_of cmp other (match_ordering order (pair ∷ put cmp key value pairs) ((key, value) ∷ pairs) ((key, value) ∷ pair ∷ pairs)) ≡ value_of cmp other (pair ∷ pairs)
  value_of-put_apart_at key other value pair pairs Less e apart rest = ap (λ (later : Option V). cond (is_eq (cmp pair.0 other)) (Some pair.1) later) rest
  value_of-put_apart_at key other value pair pairs Equal e apart rest =
      value_of_later other (key, value) pairs apart
      ∙ sym (value_of_later other pair pairs (ap (λ (k : K). is_eq (cmp k other)) (o.exact pair.0 key e) ∙ apart))
  value_of-put_apart_at key other value pair pairs Greater e apart rest = value_of_later other (key, value) (pair ∷ pairs) apart

  pub value_of-put_apart : (key other : K) (value : V) (pairs : List (K × V)) → is_eq (cmp key other) ≡ false → value_of cmp other (put cmp key value pairs) ≡ value_of cmp other pairs
  value_of-put_apart key other value [] apart = value_of_later other (key, value) [] apart
  value_of-put_apart key other value (pair ∷ pairs) apart = value_of-put_apart_at key other value pair pairs (cmp pair.0 key) refl apart (value_of-put_apart key other value pairs apart)

  pub value_of-put_other : (key other : K) (value : V) (pairs : List (K × V)) → (key ≡ other → ⊥) → value_of cmp other (put cmp key value pairs) ≡ value_of cmp other pairs
  value_of-put_other key other value pairs differ =
      value_of-put_apart key other value pairs (false_from_ne_true (is_eq (cmp key other)) (λ e. differ (tells_apart o.exact key other e)))

  -- after a value is put in, the value of any key: the new one if it is this key, else the one before
  pub value_of-put_any : (key other : K) (value : V) (pairs : List (K × V)) → value_of cmp other (put cmp key value pairs) ≡ cond (is_eq (cmp key other)) (Some value) (value_of cmp other pairs)
  value_of-put_any key other value pairs = ⊎_elim
      (λ (e : is_eq (cmp key other) ≡ true).
      subst (λ (k : K). value_of cmp k (put cmp key value pairs) ≡ Some value) (tells_apart o.exact key other e) (value_of-put key value pairs)
      ∙ sym (cond-true (is_eq (cmp key other)) (Some value) (value_of cmp other pairs) e))
      (λ (e : is_eq (cmp key other) ≡ false). value_of-put_apart key other value pairs e ∙ sym (cond-false (is_eq (cmp key other)) (Some value) (value_of cmp other pairs) e))
      (cases_Bool (is_eq (cmp key other)))

  -- ---- the keys stay ascending

  pub All-put : (P : K × V → Type 0) (key : K) (value : V) (pairs : List (K × V)) → P (key, value) → AllByRecursion P pairs → AllByRecursion P (put cmp key value pairs)
  All-put P key value [] h all = (h, tt)
  All-put P key value (pair ∷ pairs) h all =
      All-match P (cmp pair.0 key) (pair ∷ put cmp key value pairs) ((key, value) ∷ pairs) ((key, value) ∷ pair ∷ pairs) (all.0, All-put P key value pairs h all.1) (h, all.1) (h, all)

  ArePairs-put_at : (key : K) (value : V) (pair : K × V) (pairs : List (K × V)) (order : Ordering) → cmp pair.0 key ≡ order → ArePairs cmp (pair ∷ pairs) → ArePairs cmp (put cmp key value pairs)
      → ArePairs cmp (match_ordering order (pair ∷ put cmp key value pairs) ((key, value) ∷ pairs) ((key, value) ∷ pair ∷ pairs))
  ArePairs-put_at key value pair pairs Less e sorted rest = (All-put (λ next. cmp pair.0 next.0 ≡ Less) key value pairs e sorted.0, rest)
  ArePairs-put_at key value pair pairs Equal e sorted rest =
      (All-weaker (λ next. cmp pair.0 next.0 ≡ Less) (λ next. cmp key next.0 ≡ Less) pairs (λ next l. subst (λ (k : K). cmp k next.0 ≡ Less) (o.exact pair.0 key e) l) sorted.0, sorted.1)
  ArePairs-put_at key value pair pairs Greater e sorted rest =
      let first = flips o.total pair.0 key e in
      ((first, All-weaker (λ next. cmp pair.0 next.0 ≡ Less) (λ next. cmp key next.0 ≡ Less) pairs (λ next l. o.total.trans key pair.0 next.0 first l) sorted.0), sorted)

  pub ArePairs-put : (key : K) (value : V) (pairs : List (K × V)) → ArePairs cmp pairs → ArePairs cmp (put cmp key value pairs)
  ArePairs-put key value [] sorted = (tt, tt)
  ArePairs-put key value (pair ∷ pairs) sorted = ArePairs-put_at key value pair pairs (cmp pair.0 key) refl sorted (ArePairs-put key value pairs sorted.1)

  -- ---- sums over the pairs

  sum_by-put_at : (f : K × V → ℕ) (key : K) (value : V) (pair : K × V) (pairs : List (K × V)) (order : Ordering) → cmp pair.0 key ≡ order
      → AllByRecursion (λ next. cmp pair.0 next.0 ≡ Less) pairs → sum_by f (put cmp key value pairs) + at_before f key (value_of cmp key pairs) ≡ sum_by f pairs + f (key, value)
      → sum_by f (match_ordering order (pair ∷ put cmp key value pairs) ((key, value) ∷ pairs) ((key, value) ∷ pair ∷ pairs)) + at_before f key (cond (is_eq order) (Some pair.1) (value_of cmp key pairs))
      ≡ sum_by f (pair ∷ pairs) + f (key, value)
  sum_by-put_at f key value pair pairs Less e following rest = omega (arith, sum_by-cons f pair (put cmp key value pairs), sum_by-cons f pair pairs, rest)
  sum_by-put_at f key value pair pairs Equal e following rest =
      let own : f pair ≡ f (key, pair.1) = ap (λ (k : K). f (k, pair.1)) (o.exact pair.0 key e) in
      omega (arith, sum_by-cons f (key, value) pairs, sum_by-cons f pair pairs, own)
  sum_by-put_at f key value pair pairs Greater e following rest =
      let first = flips o.total pair.0 key e in
      let none : at_before f key (value_of cmp key pairs) ≡ 0 =
      ap (at_before f key) (value_of_before key pairs (All-weaker (λ next. cmp pair.0 next.0 ≡ Less) (λ next. cmp key next.0 ≡ Less) pairs (λ next l. o.total.trans key pair.0 next.0 first l) following)) in
      omega (arith, sum_by-cons f (key, value) (pair ∷ pairs), sum_by-cons f pair pairs, none)

  -- in a sum over the pairs, what the key's old value adds is replaced by what its new one adds
  pub sum_by-put : (f : K × V → ℕ) (key : K) (value : V) (pairs : List (K × V)) → ArePairs cmp pairs
      → sum_by f (put cmp key value pairs) + at_before f key (value_of cmp key pairs) ≡ sum_by f pairs + f (key, value)
  sum_by-put f key value [] sorted = omega (arith, sum_by-cons f (key, value) [])
  sum_by-put f key value (pair ∷ pairs) sorted = sum_by-put_at f key value pair pairs (cmp pair.0 key) refl sorted.0 (sum_by-put f key value pairs sorted.1)

  -- a new key makes the list longer by one
  pub length-put : (key : K) (value : V) (pairs : List (K × V)) → ArePairs cmp pairs → length (put cmp key value pairs) ≡ length pairs + one_if (is_new (value_of cmp key pairs))
  length-put key value pairs sorted =
      let sums = sum_by-put (λ pair. 1) key value pairs sorted in
      omega (arith, sums, one_each (put cmp key value pairs), one_each pairs, one_or_new (value_of cmp key pairs))
    where
      one_or_new : (before : Option V) → at_before {K = K} {V = V} (λ pair. 1) key before + one_if (is_new before) ≡ 1
      one_or_new None = omega arith
      one_or_new (Some old) = omega arith

  pub count_by-put : (p : K × V → Bool) (key : K) (value : V) (pairs : List (K × V)) → ArePairs cmp pairs
      → count_by p (put cmp key value pairs) + one_if (is_above_at (λ old. p (key, old)) (value_of cmp key pairs)) ≡ count_by p pairs + one_if (p (key, value))
  count_by-put p key value pairs sorted =
      let sums = sum_by-put (λ pair. cond (p pair) 1 0) key value pairs sorted in
      omega (arith, sums, counted (value_of cmp key pairs), counted_one (p (key, value)))
    where
      counted : (before : Option V) → at_before (λ pair. cond (p pair) 1 0) key before ≡ one_if (is_above_at (λ old. p (key, old)) before)
      counted None = refl
      counted (Some old) = counted_one (p (key, old))

-- The entries of a map, seen by their names: what is found at a name, and the entries after one is inserted or replaced.
use Rattle.covstore.proofs.Words.{◌≡◌, Bool, true, false, cond, Option, Some, None, List, [], ◌∷◌, map, option_map, refl, sym, ap, ◌∙◌, insert_entry, is_at, Ordering, Less, Equal, Greater, AllByRecursion, lookup, set_value, is_eq, match_ordering, ordering_reverse, false≢true, value_of, put, ArePairs, IsExactOrder, All-weaker}
use Rattle.std.specs.List.Sorted.{IsStrictlySortedBy}
use Rattle.std.specs.Map.{keys_of}
use Rattle.std.specs.Option.{is_some}
use Rattle.covstore.proofs.Puts.{value_of_before}

-- two keys are equal in either order
pub reverse_eq : (order : Ordering) → is_eq (ordering_reverse order) ≡ is_eq order
reverse_eq Less = refl
reverse_eq Equal = refl
reverse_eq Greater = refl

module _ {K P V W : Type 0} {cmp : P → P → Ordering} (o : IsExactOrder cmp) (name : K → P) (f : V → W) where
  -- an entry as contracts see it: its name, and its value as plain data. `seen` gives all of them
  abbrev pub seen_pair : K × V → P × W
  seen_pair pair = (name pair.0, f pair.1)

  abbrev pub seen : List (K × V) → List (P × W)
  seen pairs = map seen_pair pairs

  same_place : (key : P) (other : K) → is_eq (cmp (name other) key) ≡ is_eq (cmp key (name other))
  same_place key other = ap is_eq (o.total.antisymm (name other) key) ∙ reverse_eq (cmp key (name other))

  -- ---- what is found

  found_at : (here : Bool) (v : V) (rest : Option W) (others : Option V) → rest ≡ option_map f others → cond here (Some (f v)) rest ≡ option_map f (cond here (Some v) others)
  found_at true v rest others e = refl
  found_at false v rest others e = e

  pub seen_value : (key : P) (pairs : List (K × V)) → value_of cmp key (seen pairs) ≡ option_map f (lookup (is_at (λ other. cmp key (name other))) pairs)
  seen_value key [] = refl
  seen_value key (pair ∷ pairs) =
      ap (λ (here : Bool). cond here (Some (f pair.1)) (value_of cmp key (seen pairs))) (same_place key pair.0)
      ∙ found_at (is_eq (cmp key (name pair.0))) pair.1 (value_of cmp key (seen pairs)) (lookup (is_at (λ other. cmp key (name other))) pairs) (seen_value key pairs)

  -- ---- an entry is inserted

  same_first : (a b : P) (w : W) (pairs : List (P × W)) → a ≡ b → ◌≡◌ {A = List (P × W)} ((a, w) ∷ pairs) ((b, w) ∷ pairs)
  same_first a b w pairs e = ap (λ (p : P). (p, w) ∷ pairs) e

  insert_at : (key : K) (v : V) (pair : K × V) (pairs rest : List (K × V)) (order : Ordering) → cmp (name key) (name pair.0) ≡ order → seen rest ≡ put cmp (name key) (f v) (seen pairs)
      → seen (match_ordering order ((key, v) ∷ pair ∷ pairs) ((pair.0, v) ∷ pairs) (pair ∷ rest))
      ≡ match_ordering (ordering_reverse order) (seen_pair pair ∷ put cmp (name key) (f v) (seen pairs)) ((name key, f v) ∷ seen pairs) ((name key, f v) ∷ seen_pair pair ∷ seen pairs)
  insert_at key v pair pairs rest Less e h = refl
  insert_at key v pair pairs rest Equal e h = same_first (name pair.0) (name key) (f v) (seen pairs) (sym (o.exact (name key) (name pair.0) e))
  insert_at key v pair pairs rest Greater e h = ap (λ (ps : List (P × W)). seen_pair pair ∷ ps) h

  pub seen_insert : (key : K) (v : V) (pairs : List (K × V)) → seen (insert_entry (λ a b. cmp (name a) (name b)) pairs key v) ≡ put cmp (name key) (f v) (seen pairs)
  seen_insert key v [] = refl
  seen_insert key v (pair ∷ pairs) =
      insert_at key v pair pairs (insert_entry (λ a b. cmp (name a) (name b)) pairs key v) (cmp (name key) (name pair.0)) refl (seen_insert key v pairs)
      ∙ sym (ap (λ (order : Ordering). match_ordering order (seen_pair pair ∷ put cmp (name key) (f v) (seen pairs)) ((name key, f v) ∷ seen pairs) ((name key, f v) ∷ seen_pair pair ∷ seen pairs)) (o.total.antisymm (name pair.0) (name key)))

  -- ---- the value of an entry is replaced

  -- if the names of the keys ascend, so do the pairs that are seen
  pub seen_ascend : (pairs : List (K × V)) → IsStrictlySortedBy (λ a b. cmp (name a) (name b)) (keys_of pairs) → ArePairs cmp (seen pairs)
  unfolding IsStrictlySortedBy
  seen_ascend [] sorted = tt
  seen_ascend (pair ∷ pairs) sorted = (all pairs sorted.0, seen_ascend pairs sorted.1)
    where
      all : (others : List (K × V)) → AllByRecursion (λ y. cmp (name pair.0) (name y) ≡ Less) (keys_of others) → AllByRecursion (λ next. cmp (name pair.0) next.0 ≡ Less) (seen others)
      all [] h = tt
      all (other ∷ others) h = (h.0, all others h.1)

  set_at : (key : P) (v : V) (pair : K × V) (pairs rest : List (K × V)) (order : Ordering) → cmp (name pair.0) key ≡ order
      → (order ≡ Less → seen rest ≡ put cmp key (f v) (seen pairs)) → (order ≡ Greater → ⊥)
      → seen (cond (is_eq order) ((pair.0, v) ∷ pairs) (pair ∷ rest)) ≡ match_ordering order (seen_pair pair ∷ put cmp key (f v) (seen pairs)) ((key, f v) ∷ seen pairs) ((key, f v) ∷ seen_pair pair ∷ seen pairs)
  set_at key v pair pairs rest Less e h g = ap (λ (ps : List (P × W)). seen_pair pair ∷ ps) (h refl)
  set_at key v pair pairs rest Equal e h g = same_first (name pair.0) key (f v) (seen pairs) (o.exact (name pair.0) key e)
  set_at key v pair pairs rest Greater e h g = absurd (g refl)

  -- a key before the first has no value
  none_before : (key : P) (pair : P × W) (pairs : List (P × W)) → ArePairs cmp (pair ∷ pairs) → cmp pair.0 key ≡ Greater → value_of cmp key (pair ∷ pairs) ≡ None
  none_before key pair pairs sorted e =
      let less : cmp key pair.0 ≡ Less = o.total.antisymm key pair.0 ∙ ap ordering_reverse e in
      value_of_before o key (pair ∷ pairs) (less, All-weaker (λ (next : P × W). cmp pair.0 next.0 ≡ Less) (λ (next : P × W). cmp key next.0 ≡ Less) pairs (λ next h. o.total.trans key pair.0 next.0 less h) sorted.0)

  rest_there : (key : P) (pair : P × W) (pairs : List (P × W)) → cmp pair.0 key ≡ Less → is_some (value_of cmp key (pair ∷ pairs)) ≡ true → is_some (value_of cmp key pairs) ≡ true
  rest_there key pair pairs e there = sym (ap (λ (order : Ordering). is_some (cond (is_eq order) (Some pair.1) (value_of cmp key pairs))) e) ∙ there

  pub seen_set : (key : P) (v : V) (pairs : List (K × V)) → ArePairs cmp (seen pairs) → is_some (value_of cmp key (seen pairs)) ≡ true
      → seen (set_value (is_at (λ other. cmp key (name other))) pairs v) ≡ put cmp key (f v) (seen pairs)
  seen_set key v [] sorted there = absurd (false≢true there)
  seen_set key v (pair ∷ pairs) sorted there =
      ap (λ (here : Bool). seen (cond here ((pair.0, v) ∷ pairs) (pair ∷ set_value (is_at (λ other. cmp key (name other))) pairs v))) (sym (same_place key pair.0))
      ∙ set_at key v pair pairs (set_value (is_at (λ other. cmp key (name other))) pairs v) (cmp (name pair.0) key) refl
      (λ less. seen_set key v pairs sorted.1 (rest_there key (seen_pair pair) (seen pairs) less there))
      (λ greater. false≢true (sym (ap is_some (none_before key (seen_pair pair) (seen pairs) sorted greater)) ∙ there))

  -- ---- whether a name is there

  pub seen_there : (key : P) (pairs : List (K × V)) → is_some (value_of cmp key (seen pairs)) ≡ is_some (lookup (is_at (λ other. cmp key (name other))) pairs)
  seen_there key pairs = ap is_some (seen_value key pairs) ∙ some_mapped (lookup (is_at (λ other. cmp key (name other))) pairs)
    where
      some_mapped : (found : Option V) → is_some (option_map f found) ≡ is_some found
      some_mapped None = refl
      some_mapped (Some v) = refl

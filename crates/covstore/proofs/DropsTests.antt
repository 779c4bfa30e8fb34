-- Pairs by name, without the pair of one name: what is found of the others, and where the removed one was.
use Rattle.covstore.proofs.Words.{◌≡◌, ℕ, Bool, true, false, cond, not, Option, Some, None, List, [], ◌∷◌, ◌++◌, filter, refl, sym, ap, ◌∙◌, subst, slice_cmp, Less, AllByRecursion, remove_entry, is_eq, nat_cmp, bytes_eq, cond-true, cond-false, false≢true, none-some, same_Some, bytes_eq-Decides, ArePairs, value_of, names_order}
use Rattle.std.proofs.lemmas.Map.Text.{is_eq-slice_cmp}
use Rattle.covstore.proofs.MapNames.{bytes_apart, has_name, is_eq-flipped, names_with}
use Rattle.covstore.proofs.Puts.{value_of_before, value_of_later}

-- different names compare as different
names_apart : (a b : List ℕ) → (a ≡ b → ⊥) → is_eq (slice_cmp nat_cmp a b) ≡ false
names_apart a b apart = is_eq-slice_cmp a b ∙ bytes_apart a b apart

module _ (name : List ℕ) {V : Type 0} where
  -- the pairs of other names
  abbrev pub others : List (List ℕ × V) → List (List ℕ × V)
  others pairs = filter (λ pair. not (bytes_eq pair.0 name)) pairs

  others_first : (pair : List ℕ × V) (pairs : List (List ℕ × V)) → bytes_eq pair.0 name ≡ true → others (pair ∷ pairs) ≡ others pairs
  others_first pair pairs e = cond-false (not (bytes_eq pair.0 name)) (pair ∷ others pairs) (others pairs) (ap not e)

  others_later : (pair : List ℕ × V) (pairs : List (List ℕ × V)) → bytes_eq pair.0 name ≡ false → others (pair ∷ pairs) ≡ pair ∷ others pairs
  others_later pair pairs e = cond-true (not (bytes_eq pair.0 name)) (pair ∷ others pairs) (others pairs) (ap not e)

  -- ---- what is found

  abbrev none_at : List (List ℕ × V) → Type 0
  none_at pairs = value_of (slice_cmp nat_cmp) name pairs ≡ None

  pub none_of_others : (pairs : List (List ℕ × V)) → none_at (others pairs)
  none_of_others [] = refl
  none_of_others (pair ∷ pairs) = by (bytes_eq pair.0 name) refl (none_of_others pairs)
    where
      by : (same : Bool) → bytes_eq pair.0 name ≡ same → none_at (others pairs) → none_at (others (pair ∷ pairs))
      by true e rest = ap (value_of (slice_cmp nat_cmp) name) (others_first pair pairs e) ∙ rest
      by false e rest =
          ap (value_of (slice_cmp nat_cmp) name) (others_later pair pairs e)
          ∙ value_of_later names_order name pair (others pairs) (is_eq-slice_cmp pair.0 name ∙ e) ∙ rest

  pub value_of_others : (other : List ℕ) → (other ≡ name → ⊥) → (pairs : List (List ℕ × V)) → value_of (slice_cmp nat_cmp) other (others pairs) ≡ value_of (slice_cmp nat_cmp) other pairs
  value_of_others other apart [] = refl
  value_of_others other apart (pair ∷ pairs) = by (bytes_eq pair.0 name) refl (value_of_others other apart pairs)
    where
      by : (same : Bool) → bytes_eq pair.0 name ≡ same → value_of (slice_cmp nat_cmp) other (others pairs) ≡ value_of (slice_cmp nat_cmp) other pairs
          → value_of (slice_cmp nat_cmp) other (others (pair ∷ pairs)) ≡ value_of (slice_cmp nat_cmp) other (pair ∷ pairs)
      by true e rest =
          ap (value_of (slice_cmp nat_cmp) other) (others_first pair pairs e) ∙ rest
          ∙ sym (value_of_later names_order other pair pairs (names_apart pair.0 other (λ same. apart (sym same ∙ (bytes_eq-Decides pair.0 name).0 e))))
      by false e rest =
          ap (value_of (slice_cmp nat_cmp) other) (others_later pair pairs e)
          ∙ ap (λ (later : Option V). cond (is_eq (slice_cmp nat_cmp pair.0 other)) (Some pair.1) later) rest

  -- ---- the order stays

  All-others : (P : List ℕ × V → Type 0) (pairs : List (List ℕ × V)) → AllByRecursion P pairs → AllByRecursion P (others pairs)
  All-others P [] all = tt
  All-others P (pair ∷ pairs) all = by (bytes_eq pair.0 name) refl (All-others P pairs all.1)
    where
      by : (same : Bool) → bytes_eq pair.0 name ≡ same → AllByRecursion P (others pairs) → AllByRecursion P (others (pair ∷ pairs))
      by true e rest = subst (AllByRecursion P) (sym (others_first pair pairs e)) rest
      by false e rest = subst (AllByRecursion P) (sym (others_later pair pairs e)) (all.0, rest)

  pub others_ascend : (pairs : List (List ℕ × V)) → ArePairs (slice_cmp nat_cmp) pairs → ArePairs (slice_cmp nat_cmp) (others pairs)
  others_ascend [] sorted = tt
  others_ascend (pair ∷ pairs) sorted = by (bytes_eq pair.0 name) refl (others_ascend pairs sorted.1)
    where
      by : (same : Bool) → bytes_eq pair.0 name ≡ same → ArePairs (slice_cmp nat_cmp) (others pairs) → ArePairs (slice_cmp nat_cmp) (others (pair ∷ pairs))
      by true e rest = subst (ArePairs (slice_cmp nat_cmp)) (sym (others_first pair pairs e)) rest
      by false e rest = subst (ArePairs (slice_cmp nat_cmp)) (sym (others_later pair pairs e)) (All-others (λ next. slice_cmp nat_cmp pair.0 next.0 ≡ Less) pairs sorted.0, rest)

  -- ---- if the name isn't there, nothing is removed

  some_at : (same : Bool) (value : V) (later : Option V) → same ≡ true → cond same (Some value) later ≡ None → ⊥
  some_at true value later e none = none-some value (sym none)
  some_at false value later e none = false≢true e

  pub others_of_none : (pairs : List (List ℕ × V)) → none_at pairs → others pairs ≡ pairs
  others_of_none [] none = refl
  others_of_none (pair ∷ pairs) none = by (bytes_eq pair.0 name) refl (λ later. others_of_none pairs later)
    where
      by : (same : Bool) → bytes_eq pair.0 name ≡ same → (none_at pairs → others pairs ≡ pairs) → others (pair ∷ pairs) ≡ pair ∷ pairs
      by true e rest = absurd (some_at (is_eq (slice_cmp nat_cmp pair.0 name)) pair.1 (value_of (slice_cmp nat_cmp) name pairs) (is_eq-slice_cmp pair.0 name ∙ e) none)
      by false e rest =
          others_later pair pairs e
          ∙ ap (λ (ps : List (List ℕ × V)). pair ∷ ps) (rest (sym (value_of_later names_order name pair pairs (is_eq-slice_cmp pair.0 name ∙ e)) ∙ none))

  -- in ascending pairs, the name isn't in the pairs after its own
  none_after : (pair : List ℕ × V) (pairs : List (List ℕ × V)) → ArePairs (slice_cmp nat_cmp) (pair ∷ pairs) → bytes_eq pair.0 name ≡ true → none_at pairs
  none_after pair pairs sorted e =
      subst (λ (n : List ℕ). value_of (slice_cmp nat_cmp) n pairs ≡ None) ((bytes_eq-Decides pair.0 name).0 e) (value_of_before names_order pair.0 pairs sorted.0)

  -- ---- where it was

  -- the pairs are the others, with this one between them
  pub record IsBetween (value : V) (pairs : List (List ℕ × V)) : Type 0 where
    pub front : List (List ℕ × V)
    pub back : List (List ℕ × V)
    pub all : pairs ≡ front ++ (name, value) ∷ back
    pub without : others pairs ≡ front ++ back

  same_pair : (pair : List ℕ × V) (value : V) → pair.0 ≡ name → pair.1 ≡ value → ◌≡◌ {A = List ℕ × V} pair (name, value)
  same_pair pair value keys values = λ i. (keys i, values i)

  pub between : (value : V) (pairs : List (List ℕ × V)) → ArePairs (slice_cmp nat_cmp) pairs → value_of (slice_cmp nat_cmp) name pairs ≡ Some value → IsBetween value pairs
  between value [] sorted found = absurd (none-some value found)
  between value (pair ∷ pairs) sorted found = by (bytes_eq pair.0 name) refl (λ later. between value pairs sorted.1 later)
    where
      by : (same : Bool) → bytes_eq pair.0 name ≡ same → (value_of (slice_cmp nat_cmp) name pairs ≡ Some value → IsBetween value pairs) → IsBetween value (pair ∷ pairs)
      by true e rest =
          let own : pair.1 ≡ value = same_Some pair.1 value (sym (cond-true (is_eq (slice_cmp nat_cmp pair.0 name)) (Some pair.1) (value_of (slice_cmp nat_cmp) name pairs) (is_eq-slice_cmp pair.0 name ∙ e)) ∙ found) in
          record {
            front = [];
            back = pairs;
            all = ap (λ (p : List ℕ × V). p ∷ pairs) (same_pair pair value ((bytes_eq-Decides pair.0 name).0 e) own);
            without = others_first pair pairs e ∙ others_of_none pairs (none_after pair pairs sorted e);
          }
      by false e rest =
          let later = rest (sym (value_of_later names_order name pair pairs (is_eq-slice_cmp pair.0 name ∙ e)) ∙ found) in
          record {
            front = pair ∷ later.front;
            back = later.back;
            all = ap (λ (ps : List (List ℕ × V)). pair ∷ ps) later.all;
            without = others_later pair pairs e ∙ ap (λ (ps : List (List ℕ × V)). pair ∷ ps) later.without;
          }

-- ---- an entry that is removed from a map

module _ {K X V : Type 0} (name_of : K → List ℕ) (f : X → V) (name : List ℕ) where
  pub removed : (entries : List (K × X)) → ArePairs (slice_cmp nat_cmp) (names_with name_of f entries)
      → names_with name_of f (remove_entry (has_name name_of name) entries) ≡ others name (names_with name_of f entries)
  removed [] sorted = refl
  removed (entry ∷ entries) sorted = by (bytes_eq (name_of entry.0) name) refl (removed entries sorted.1)
    where
      here : is_eq (slice_cmp nat_cmp name (name_of entry.0)) ≡ bytes_eq (name_of entry.0) name
      here = is_eq-flipped name (name_of entry.0) ∙ is_eq-slice_cmp (name_of entry.0) name

      by : (same : Bool) → bytes_eq (name_of entry.0) name ≡ same
          → names_with name_of f (remove_entry (has_name name_of name) entries) ≡ others name (names_with name_of f entries)
          → names_with name_of f (remove_entry (has_name name_of name) (entry ∷ entries)) ≡ others name ((name_of entry.0, f entry.1) ∷ names_with name_of f entries)
      by true e rest =
          ap (names_with name_of f) (cond-true (has_name name_of name entry.0) entries (entry ∷ remove_entry (has_name name_of name) entries) (here ∙ e))
          ∙ sym (others_of_none name (names_with name_of f entries) (none_after name (name_of entry.0, f entry.1) (names_with name_of f entries) sorted e))
          ∙ sym (others_first name (name_of entry.0, f entry.1) (names_with name_of f entries) e)
      by false e rest =
          ap (names_with name_of f) (cond-false (has_name name_of name entry.0) entries (entry ∷ remove_entry (has_name name_of name) entries) (here ∙ e))
          ∙ ap (λ (ps : List (List ℕ × V)). (name_of entry.0, f entry.1) ∷ ps) rest
          ∙ sym (others_later name (name_of entry.0, f entry.1) (names_with name_of f entries) e)

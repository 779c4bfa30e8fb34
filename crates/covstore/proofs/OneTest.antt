-- A list of no entry or of one: it is in order, and what is found in it and written to it.
use Rattle.covstore.proofs.Words.{◌≡◌, Bool, true, false, cond, Option, Some, None, is_some, List, [], ◌∷◌, refl, sym, Ordering, lookup, set_value, false≢true}
use Rattle.std.specs.List.Sorted.{IsStrictlySortedBy}

module _ {K : Type 0} (cmp : K → K → Ordering) where
  pub none_sorted : IsStrictlySortedBy cmp []
  unfolding IsStrictlySortedBy
  none_sorted = tt

  pub one_sorted : (key : K) → IsStrictlySortedBy cmp (key ∷ [])
  unfolding IsStrictlySortedBy
  one_sorted key = (tt, tt)

module _ {K X : Type 0} (here : K → Bool) (key : K) (value : X) where
  found_at : (is : Bool) → is_some (cond {A = Option X} is (Some value) None) ≡ true → cond {A = Option X} is (Some value) None ≡ Some value
  found_at true there = refl
  found_at false there = absurd (false≢true there)

  pub one_found : is_some (lookup here ((key, value) ∷ [])) ≡ true → lookup here ((key, value) ∷ []) ≡ Some value
  one_found there = found_at (here key) there

  written_at : (is : Bool) (later : X) → is_some (cond {A = Option X} is (Some value) None) ≡ true → cond {A = List (K × X)} is ((key, later) ∷ []) ((key, value) ∷ []) ≡ (key, later) ∷ []
  written_at true later there = refl
  written_at false later there = absurd (false≢true there)

  pub one_written : (later : X) → is_some (lookup here ((key, value) ∷ [])) ≡ true → set_value here ((key, value) ∷ []) later ≡ (key, later) ∷ []
  one_written later there = written_at (here key) later there

  missing_at : (is : Bool) → is_some (cond {A = Option X} is (Some value) None) ≡ false → cond {A = Option X} is (Some value) None ≡ None
  missing_at true none = absurd (false≢true (sym none))
  missing_at false none = refl

  pub one_missing : is_some (lookup here ((key, value) ∷ [])) ≡ false → lookup here ((key, value) ∷ []) ≡ None
  one_missing none = missing_at (here key) none

  unwritten_at : (is : Bool) (later : X) → is_some (cond {A = Option X} is (Some value) None) ≡ false → cond {A = List (K × X)} is ((key, later) ∷ []) ((key, value) ∷ []) ≡ (key, value) ∷ []
  unwritten_at true later none = absurd (false≢true (sym none))
  unwritten_at false later none = refl

  pub one_unwritten : (later : X) → is_some (lookup here ((key, value) ∷ [])) ≡ false → set_value here ((key, value) ∷ []) later ≡ (key, value) ∷ []
  one_unwritten later none = unwritten_at (here key) later none

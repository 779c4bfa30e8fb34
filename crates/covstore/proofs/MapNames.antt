-- The entries of a map whose keys are names, before and after the value at one name is replaced.
use Rattle.covstore.proofs.Words.{◌≡◌, ℕ, Bool, true, false, cond, Some, None, option_map, List, [], ◌∷◌, map, refl, sym, ap, ◌∙◌, subst, slice_cmp, Less, AllByRecursion, lookup, set_value, is_eq, nat_cmp, bytes_eq, false_from_ne_true, false≢true, nat_list_cmp_total, tied_itself, tells_apart, same_Some, bytes_eq-Decides, value_of, names_order}
use Rattle.std.specs.List.Sorted.{IsStrictlySortedBy}
use Rattle.std.specs.Map.{keys_of}
use Rattle.std.proofs.lemmas.Map.{NonePasses, none_passes_from_lookup}
use Rattle.covstore.proofs.MapKeys.{reverse_eq, seen_value}

-- `bytes_eq` is false of different names
pub bytes_apart : (a b : List ℕ) → (a ≡ b → ⊥) → bytes_eq a b ≡ false
bytes_apart a b apart = false_from_ne_true (bytes_eq a b) (λ e. apart ((bytes_eq-Decides a b).0 e))

-- the entries by their names, with a part of each value
abbrev pub names_with : {K X Y : Type 0} → (K → List ℕ) → (X → Y) → List (K × X) → List (List ℕ × Y)
names_with name f pairs = map (λ pair. (name pair.0, f pair.1)) pairs

module _ {K : Type 0} (name : K → List ℕ) (key : List ℕ) where
  -- whether a key has this name, as a look-up by the name compares it
  abbrev pub has_name : K → Bool
  has_name k = is_eq (slice_cmp nat_cmp key (name k))

  pub named : (k : K) → has_name k ≡ true → name k ≡ key
  named k e = sym (tells_apart names_order.exact key (name k) e)

  not_named : (k : K) → has_name k ≡ false → name k ≡ key → ⊥
  not_named k e same = false≢true (sym e ∙ ap (λ (n : List ℕ). is_eq (slice_cmp nat_cmp key n)) same ∙ ap is_eq (tied_itself nat_list_cmp_total key))

  module _ {X : Type 0} where
    -- what is true of the entries with other names
    pub All-others : (P Q : K × X → Type 0) (es : List (K × X)) → NonePasses has_name es → ((e : K × X) → P e → (name e.0 ≡ key → ⊥) → Q e) → AllByRecursion P es → AllByRecursion Q es
    All-others P Q [] none other all = tt
    All-others P Q (e ∷ es) none other all = (other e all.0 (not_named e.0 none.0), All-others P Q es none.1 other all.1)

    pub All-unfound : (P Q : K × X → Type 0) (es : List (K × X)) → lookup has_name es ≡ None → ((e : K × X) → P e → (name e.0 ≡ key → ⊥) → Q e) → AllByRecursion P es → AllByRecursion Q es
    All-unfound P Q es none other all = All-others P Q es (none_passes_from_lookup has_name es none) other all

    -- no key after it has the same name
    none_after : (k : K) (es : List (K × X)) → name k ≡ key → AllByRecursion (λ next. slice_cmp nat_cmp (name k) (name next) ≡ Less) (keys_of es) → NonePasses has_name es
    none_after k [] e following = tt
    none_after k (next ∷ es) e following =
        (ap is_eq (ap (λ (n : List ℕ). slice_cmp nat_cmp n (name next.0)) (sym e) ∙ following.0), none_after k es e following.1)

    -- if a value is replaced, `Q` is true of all entries: of this one by `own`, and of those with other names by `other`
    All-written_at : (P Q : K × X → Type 0) (v w : X) (e : K × X) (es : List (K × X)) (here : Bool) → has_name e.0 ≡ here
        → AllByRecursion (λ next. slice_cmp nat_cmp (name e.0) (name next) ≡ Less) (keys_of es) → cond here (Some e.1) (lookup has_name es) ≡ Some v
        → ((k : K) → P (k, v) → name k ≡ key → Q (k, w)) → ((e : K × X) → P e → (name e.0 ≡ key → ⊥) → Q e) → AllByRecursion P (e ∷ es)
        → (lookup has_name es ≡ Some v → AllByRecursion Q (set_value has_name es w)) → AllByRecursion Q (cond here ((e.0, w) ∷ es) (e ∷ set_value has_name es w))
    All-written_at P Q v w e es true is following found own other all rest =
        (own e.0 (subst (λ (x : X). P (e.0, x)) (same_Some e.1 v found) all.0) (named e.0 is), All-others P Q es (none_after e.0 es (named e.0 is) following) other all.1)
    All-written_at P Q v w e es false is following found own other all rest = (other e all.0 (not_named e.0 is), rest found)

    pub All-written : (P Q : K × X → Type 0) (v w : X) (es : List (K × X)) → IsStrictlySortedBy (λ (a b : K). slice_cmp nat_cmp (name a) (name b)) (keys_of es) → lookup has_name es ≡ Some v
        → ((k : K) → P (k, v) → name k ≡ key → Q (k, w)) → ((e : K × X) → P e → (name e.0 ≡ key → ⊥) → Q e) → AllByRecursion P es → AllByRecursion Q (set_value has_name es w)
    unfolding IsStrictlySortedBy
    All-written P Q v w [] sorted found own other all = tt
    All-written P Q v w (e ∷ es) sorted found own other all =
        All-written_at P Q v w e es (has_name e.0) refl sorted.0 found own other all (λ later. All-written P Q v w es sorted.1 later own other all.1)

    -- if the visible part of the value stays, the entries look the same
    map_written_at : {Y : Type 0} (f : X → Y) (v w : X) (e : K × X) (es : List (K × X)) (here : Bool) → f w ≡ f v → cond here (Some e.1) (lookup has_name es) ≡ Some v
        → (lookup has_name es ≡ Some v → names_with name f (set_value has_name es w) ≡ names_with name f es)
        → names_with name f (cond here ((e.0, w) ∷ es) (e ∷ set_value has_name es w)) ≡ names_with name f (e ∷ es)
    map_written_at {Y} f v w e es true same found rest =
        ap (λ (y : Y). (name e.0, y) ∷ names_with name f es) (same ∙ ap f (sym (same_Some e.1 v found)))
    map_written_at {Y} f v w e es false same found rest = ap (λ (ys : List (List ℕ × Y)). (name e.0, f e.1) ∷ ys) (rest found)

    pub map_written : {Y : Type 0} (f : X → Y) (v w : X) (es : List (K × X)) → f w ≡ f v → lookup has_name es ≡ Some v
        → names_with name f (set_value has_name es w) ≡ names_with name f es
    map_written f v w [] same found = refl
    map_written f v w (e ∷ es) same found = map_written_at f v w e es (has_name e.0) same found (map_written f v w es same)

pub is_eq-flipped : (a b : List ℕ) → is_eq (slice_cmp nat_cmp a b) ≡ is_eq (slice_cmp nat_cmp b a)
is_eq-flipped a b = ap is_eq (nat_list_cmp_total.antisymm a b) ∙ reverse_eq (slice_cmp nat_cmp b a)

-- a look-up by name in these pairs finds `f` of what a look-up in the map finds
pub value_of_named : {K X Y : Type 0} (name : K → List ℕ) (f : X → Y) (key : List ℕ) (pairs : List (K × X)) → value_of (slice_cmp nat_cmp) key (names_with name f pairs) ≡ option_map f (lookup (has_name name key) pairs)
value_of_named name f key pairs = seen_value names_order name f key pairs

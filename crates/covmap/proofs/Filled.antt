-- What the filled slots are after a key gets a slot or a value.
use Rattle.std.proofs.Common.{◌≡◌, Bool, true, false, cond, Option, List, [], ◌∷◌, ◌++◌, refl, sym, ap, ◌∙◌}
use Rattle.std.specs.declared.cmp.Ordering.{Ordering}
use Rattle.std.specs.declared.cmp.Ordering.TheVariants.{Less, Equal, Greater}
use Rattle.std.specs.Ordering.{is_lt, is_eq}
use Rattle.std.specs.Prelude.{None, Some, ◌||◌}
use Rattle.std.specs.List.{AllByRecursion, list_any}
use Rattle.std.specs.Map.{keys_of, lookup}
use Rattle.covmap.specs.Query.{IsQuery}
use Rattle.covmap.specs.Puts.{ArePairs, put}
use Rattle.covmap.specs.Slots.{IsAscending, filled, value_in, slot_value}
use Rattle.covmap.proofs.SlotSearch.{all_after}

-- ---- looking up

-- the queried key isn't found among keys that are all greater
none_after : {K V : Type 0} (order : K → Ordering) (slots : List (K × Option V)) → AllByRecursion (λ slot. order slot.0 ≡ Greater) slots → lookup (λ key. is_eq (order key)) (filled slots) ≡ None
none_after order [] a = refl
none_after order ((key, None) ∷ slots) a = none_after order slots a.1
none_after order ((key, Some value) ∷ slots) a = rw a.0 (none_after order slots a.1)

none_of_false : (b c : Bool) → (b || c) ≡ false → (b ≡ false) × (c ≡ false)
none_of_false true c e = absurd cc
none_of_false false c e = (refl, e)

-- a key without a slot isn't found
pub lookup_absent : {K V : Type 0} (test : K → Bool) (slots : List (K × Option V)) → list_any test (keys_of slots) ≡ false → lookup test (filled slots) ≡ None
lookup_absent test [] e = refl
lookup_absent test ((key, None) ∷ slots) e = lookup_absent test slots (none_of_false (test key) (list_any test (keys_of slots)) e).1
lookup_absent test ((key, Some value) ∷ slots) e =
    let parts = none_of_false (test key) (list_any test (keys_of slots)) e in
    rw parts.0 (lookup_absent test slots parts.1)

equal_is : (o : Ordering) → is_eq o ≡ true → o ≡ Equal
equal_is Less e = absurd cc
equal_is Equal e = refl
equal_is Greater e = absurd cc

lookup_filled_at : {K V : Type 0} {cmp : K → K → Ordering} {order : K → Ordering} → IsQuery cmp order → (key : K) (value : Option V) (slots : List (K × Option V))
    → AllByRecursion (λ next. cmp key next.0 ≡ Less) slots → (b : Bool) → is_eq (order key) ≡ b → lookup (λ key. is_eq (order key)) (filled slots) ≡ value_in (slot_value order slots)
    → lookup (λ key. is_eq (order key)) (filled ((key, value) ∷ slots)) ≡ value_in (cond b (Some value) (slot_value order slots))
lookup_filled_at {K} {V} {cmp} {order} query key None slots a true e rest =
    let slot : K × Option V = (key, None) in
    none_after order slots (all_after query slot slots (ap is_lt (equal_is (order key) e)) a)
lookup_filled_at query key (Some value) slots a true e rest = rw e refl
lookup_filled_at query key None slots a false e rest = rest
lookup_filled_at query key (Some value) slots a false e rest = rw e rest

-- the value of a key is the one in its slot
pub lookup_filled : {K V : Type 0} {cmp : K → K → Ordering} {order : K → Ordering} → IsQuery cmp order → (slots : List (K × Option V)) → IsAscending cmp slots
    → lookup (λ key. is_eq (order key)) (filled slots) ≡ value_in (slot_value order slots)
lookup_filled query [] a = refl
lookup_filled {K} {V} {cmp} {order} query (slot ∷ slots) a = lookup_filled_at query slot.0 slot.1 slots a.0 (is_eq (order slot.0)) refl (lookup_filled query slots a.1)

-- ---- putting in a value

put_first : {K V : Type 0} (cmp : K → K → Ordering) (key : K) (value : V) (slots : List (K × Option V)) → AllByRecursion (λ slot. cmp slot.0 key ≡ Greater) slots
    → put cmp key value (filled slots) ≡ (key, value) ∷ filled slots
put_first cmp key value [] a = refl
put_first cmp key value ((other, None) ∷ slots) a = put_first cmp key value slots a.1
put_first cmp key value ((other, Some old) ∷ slots) a = rw a.0 refl

put_here : {K V : Type 0} (cmp : K → K → Ordering) (key : K) (value : V) (here : K) (old : Option V) (back : List (K × Option V)) → cmp here key ≡ Equal → here ≡ key
    → AllByRecursion (λ slot. cmp slot.0 key ≡ Greater) back → put cmp key value (filled ((here, old) ∷ back)) ≡ filled ((here, Some value) ∷ back)
put_here cmp key value here None back e same a = put_first cmp key value back a ∙ ap (λ key. (key, value) ∷ filled back) (sym same)
put_here cmp key value here (Some old) back e same a = rw e (ap (λ key. (key, value) ∷ filled back) (sym same))

-- after a value is written into a key's slot, the filled slots are what `put` makes of those before
pub filled_put : {K V : Type 0} (cmp : K → K → Ordering) (key : K) (value : V) (front : List (K × Option V)) (here : K) (old : Option V) (back : List (K × Option V))
    → AllByRecursion (λ slot. cmp slot.0 key ≡ Less) front → cmp here key ≡ Equal → here ≡ key → AllByRecursion (λ slot. cmp slot.0 key ≡ Greater) back
    → filled (front ++ (here, Some value) ∷ back) ≡ put cmp key value (filled (front ++ (here, old) ∷ back))
filled_put cmp key value [] here old back a e same b = sym (put_here cmp key value here old back e same b)
filled_put cmp key value ((first, None) ∷ front) here old back a e same b = filled_put cmp key value front here old back a.1 e same b
filled_put cmp key value ((first, Some other) ∷ front) here old back a e same b = rw a.0 (ap (λ rest. (first, other) ∷ rest) (filled_put cmp key value front here old back a.1 e same b))

-- ---- the filled slots ascend

filled_all : {K V : Type 0} (P : K → Type 0) (slots : List (K × Option V)) → AllByRecursion (λ slot. P slot.0) slots → AllByRecursion (λ pair. P pair.0) (filled slots)
filled_all P [] a = tt
filled_all P ((key, None) ∷ slots) a = filled_all P slots a.1
filled_all P ((key, Some value) ∷ slots) a = (a.0, filled_all P slots a.1)

pub filled_pairs : {K V : Type 0} (cmp : K → K → Ordering) (slots : List (K × Option V)) → IsAscending cmp slots → ArePairs cmp (filled slots)
filled_pairs cmp [] a = tt
filled_pairs cmp ((key, None) ∷ slots) a = filled_pairs cmp slots a.1
filled_pairs cmp ((key, Some value) ∷ slots) a = (filled_all (λ next. cmp key next ≡ Less) slots a.0, filled_pairs cmp slots a.1)

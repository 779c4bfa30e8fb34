-- What is at the place of a key, in the list of all slots.
use Rattle.std.proofs.Common.{◌≡◌, ℕ, zero, suc, ◌<◌, false, Option, List, [], ◌∷◌, ◌++◌, length, get_or, take, drop, set, refl, sym, ap, ◌∙◌, append_assoc, subst, arith}
use Rattle.std.specs.declared.cmp.Ordering.{Ordering}
use Rattle.std.specs.declared.cmp.Ordering.TheVariants.{Less, Equal}
use Rattle.std.specs.Ordering.{is_gt}
use Rattle.std.specs.List.{AllByRecursion}
use Rattle.std.specs.Prelude.{Some, slice_get}
use Rattle.covmap.specs.Query.{IsQuery}
use Rattle.covmap.specs.Slots.{IsAscending, slots_of, page_at, slot_at, before, slot_value}
use Rattle.covmap.specs.Staged.{column_of, with_column, with_value_at}
use Rattle.covmap.proofs.Leads.{all_back}
use Rattle.covmap.proofs.SlotPages.{whole}
use Rattle.covmap.proofs.SlotWrites.{slots_of_set}

-- ---- in one list

-- a key with a slot is found
found_there : {K V : Type 0} (order : K → Ordering) (front : List (K × Option V)) (slot : K × Option V) (back : List (K × Option V)) → AllByRecursion (λ slot. order slot.0 ≡ Less) front
    → order slot.0 ≡ Equal → slot_value order (front ++ slot ∷ back) ≡ Some slot.1
found_there order [] slot back a e = rw e refl
found_there order (first ∷ front) slot back a e = rw a.0 (found_there order front slot back a.1 e)

-- the slots before one that isn't greater than the queried key come before that key
pub before_there : {K V : Type 0} {cmp : K → K → Ordering} {order : K → Ordering} → IsQuery cmp order → (front : List (K × Option V)) (slot : K × Option V) (back : List (K × Option V))
    → IsAscending cmp (front ++ slot ∷ back) → is_gt (order slot.0) ≡ false → AllByRecursion (λ slot. order slot.0 ≡ Less) front
before_there query [] slot back a e = tt
before_there {K} {V} {cmp} {order} query (first ∷ front) slot back a e =
    let next = all_back (λ (other : K × Option V). cmp first.0 other.0 ≡ Less) front (slot ∷ back) a.0 in
    (query.before first.0 slot.0 next.0 e, before_there query front slot back a.1 e)

-- ---- over pages

pub rest_from_slot : {X : Type 0} (page : List X) (j : ℕ) (slot : X) → slice_get page j ≡ Some slot → drop j page ≡ slot ∷ drop (suc j) page
rest_from_slot [] j slot e = absurd cc
rest_from_slot (first ∷ page) zero slot e = let same : first ≡ slot = cc in ap (λ slot. slot ∷ page) same
rest_from_slot (first ∷ page) (suc j) slot e = rest_from_slot page j slot e

pub column_set : {K V : Type 0} (page : List (K × Option V)) (j : ℕ) (slot : K × Option V) (value : Option V) → slice_get page j ≡ Some slot
    → with_column page (set (column_of page) j value) ≡ take j page ++ (slot.0, value) ∷ drop (suc j) page
column_set [] j slot value e = absurd cc
column_set (first ∷ page) zero slot value e = let same : first ≡ slot = cc in ap (λ rest. (first.0, value) ∷ rest) (own page) ∙ ap (λ (slot : _). (slot.0, value) ∷ page) same
  where
    own : {K V : Type 0} (page : List (K × Option V)) → with_column page (column_of page) ≡ page
    own [] = refl
    own (slot ∷ page) = ap (λ rest. slot ∷ rest) (own page)
column_set (first ∷ page) (suc j) slot value e = ap (λ rest. first ∷ rest) (column_set page j slot value e)

pub page_is_there : {X : Type 0} (pages : List (List X)) (i j : ℕ) (slot : X) → slice_get (get_or pages i []) j ≡ Some slot → i < length pages
page_is_there [] i j slot e = absurd cc
page_is_there (page ∷ pages) zero j slot e = omega arith
page_is_there (page ∷ pages) (suc i) j slot e = omega (arith, page_is_there pages i j slot e)

module _ {K V : Type 0} {cmp : K → K → Ordering} {order : K → Ordering} (query : IsQuery cmp order) (pages : List (List (K × Option V))) (i j : ℕ) (ascending : IsAscending cmp (slots_of pages)) where
  pub around : (slot : K × Option V) → slot_at pages (i, j) ≡ Some slot → slots_of pages ≡ before pages (i, j) ++ slot ∷ (drop (suc j) (page_at pages i) ++ slots_of (drop (suc i) pages))
  around slot e = whole pages i j ∙ ap (λ rest. before pages (i, j) ++ (rest ++ slots_of (drop (suc i) pages))) (rest_from_slot (page_at pages i) j slot e)

  -- the queried key has the value at its place
  pub value_there : (slot : K × Option V) → slot_at pages (i, j) ≡ Some slot → order slot.0 ≡ Equal → slot_value order (slots_of pages) ≡ Some slot.1
  value_there slot e same =
      let parts = around slot e in
      let back = drop (suc j) (page_at pages i) ++ slots_of (drop (suc i) pages) in
      let front = before_there query (before pages (i, j)) slot back (subst (IsAscending cmp) parts ascending) (ap is_gt same) in
      ap (slot_value order) parts ∙ found_there order (before pages (i, j)) slot back front same

  -- a value written at a place changes only the slot there, in the list of all slots
  pub written_there : (slot : K × Option V) (value : V) → slot_at pages (i, j) ≡ Some slot
      → slots_of (with_value_at (i, j) value pages) ≡ before pages (i, j) ++ (slot.0, Some value) ∷ (drop (suc j) (page_at pages i) ++ slots_of (drop (suc i) pages))
  written_there slot value e =
      let page = page_at pages i in
      let following = slots_of (drop (suc i) pages) in
      let back = drop (suc j) page ++ following in
      slots_of_set pages i (with_column page (set (column_of page) j (Some value))) (page_is_there pages i j slot e)
      ∙ ap (λ page. slots_of (take i pages) ++ (page ++ following)) (column_set page j slot (Some value) e)
      ∙ ap (λ rest. slots_of (take i pages) ++ rest) (append_assoc (take j page) ((slot.0, Some value) ∷ drop (suc j) page) following)
      ∙ sym (append_assoc (slots_of (take i pages)) (take j page) ((slot.0, Some value) ∷ back))

-- The committed entries after a value, or none, is written into the slot of a key.
use Rattle.std.proofs.Common.{◌≡◌, ℕ, suc, Option, Some, None, List, [], ◌∷◌, ◌++◌, take, drop, set, refl, sym, ap, ◌∙◌, append_assoc, subst}
use Rattle.std.specs.Cmp.{IsTotalOrder}
use Rattle.std.specs.declared.cmp.Ordering.{Ordering}
use Rattle.std.specs.declared.cmp.Ordering.TheVariants.{Less, Equal, Greater}
use Rattle.std.specs.List.{AllByRecursion}
use Rattle.std.specs.Ordering.{is_gt, is_lt}
use Rattle.covmap.specs.Query.{query_by_order}
use Rattle.covmap.specs.Assigned.{assigned, with_slot, without}
use Rattle.covmap.specs.Staged.{column_of, with_column}
use Rattle.covmap.specs.Puts.{value_of}
use Rattle.covmap.specs.Slots.{AreSlots, IsAscending, IsGap, IsPlace, before, filled, page_at, slot_at, slots_of, value_at}
use Rattle.covmap.proofs.StagedPages.{nothing_staged}
use Rattle.covmap.proofs.Filled.{filled_put}
use Rattle.covmap.proofs.MapPlaces.{staged_absent, staged_found}
use Rattle.covmap.proofs.SlotAfter.{place_slot}
use Rattle.covmap.proofs.SlotPlaces.{around, before_there, column_set, page_is_there}
use Rattle.covmap.proofs.SlotSearch.{all_after, ascending_back}
use Rattle.covmap.proofs.SlotWrites.{slots_of_set}

-- ---- among the filled slots

-- keys greater than the removed one stay
stay_after : {K V : Type 0} (cmp : K → K → Ordering) (key : K) (slots : List (K × Option V)) → AllByRecursion (λ slot. cmp slot.0 key ≡ Greater) slots → without cmp key (filled slots) ≡ filled slots
stay_after cmp key [] a = refl
stay_after cmp key ((other, None) ∷ slots) a = stay_after cmp key slots a.1
stay_after cmp key ((other, Some old) ∷ slots) a = rw a.0 (ap (λ rest. (other, old) ∷ rest) (stay_after cmp key slots a.1))

goes_here : {K V : Type 0} (cmp : K → K → Ordering) (key here : K) (old : Option V) (back : List (K × Option V)) → cmp here key ≡ Equal → AllByRecursion (λ slot. cmp slot.0 key ≡ Greater) back
    → without cmp key (filled ((here, old) ∷ back)) ≡ filled back
goes_here cmp key here None back e a = stay_after cmp key back a
goes_here cmp key here (Some old) back e a = rw e (stay_after cmp key back a)

filled_without : {K V : Type 0} (cmp : K → K → Ordering) (key : K) (front : List (K × Option V)) (here : K) (old : Option V) (back : List (K × Option V))
    → AllByRecursion (λ slot. cmp slot.0 key ≡ Less) front → cmp here key ≡ Equal → AllByRecursion (λ slot. cmp slot.0 key ≡ Greater) back
    → filled (front ++ (here, None) ∷ back) ≡ without cmp key (filled (front ++ (here, old) ∷ back))
filled_without cmp key [] here old back a e b = sym (goes_here cmp key here old back e b)
filled_without cmp key ((first, None) ∷ front) here old back a e b = filled_without cmp key front here old back a.1 e b
filled_without cmp key ((first, Some other) ∷ front) here old back a e b = rw a.0 (ap (λ rest. (first, other) ∷ rest) (filled_without cmp key front here old back a.1 e b))

filled_assigned : {K V : Type 0} (cmp : K → K → Ordering) (key : K) (value : Option V) (front : List (K × Option V)) (here : K) (old : Option V) (back : List (K × Option V))
    → AllByRecursion (λ slot. cmp slot.0 key ≡ Less) front → cmp here key ≡ Equal → here ≡ key → AllByRecursion (λ slot. cmp slot.0 key ≡ Greater) back
    → filled (front ++ (here, value) ∷ back) ≡ assigned cmp key value (filled (front ++ (here, old) ∷ back))
filled_assigned cmp key None front here old back a e same b = filled_without cmp key front here old back a e b
filled_assigned cmp key (Some value) front here old back a e same b = filled_put cmp key value front here old back a e same b

-- ---- over pages

module _ {K V : Type 0} {cmp : K → K → Ordering} (t : IsTotalOrder cmp) (exact : (x y : K) → cmp x y ≡ Equal → x ≡ y) (key : K) (pages : List (List (K × Option V))) (i j : ℕ) (slots : AreSlots cmp pages)
    (place : IsPlace (λ other. cmp other key) pages (i, j)) where
  -- to write a value at the key's place is to assign it to the key in the committed entries
  pub slot_assigned : (value : Option V) → filled (slots_of (with_slot (i, j) value pages)) ≡ assigned cmp key value (filled (slots_of pages))
  slot_assigned value =
      let order = λ (other : K). cmp other key in
      let query = query_by_order t key in
      let found = place_slot order (slot_at pages (i, j)) (ap is_gt place) in
      let slot = found.0 in
      let same : cmp slot.0 key ≡ Equal = sym found.2 ∙ place in
      let page = page_at pages i in
      let following = slots_of (drop (suc i) pages) in
      let rest = drop (suc j) page ++ following in
      let parts = around query pages i j slots.ascending slot found.1 in
      let apart = subst (IsAscending cmp) parts slots.ascending in
      let front = before_there query (before pages (i, j)) slot rest apart (ap is_gt same) in
      let back = all_after query slot rest (ap is_lt same) (ascending_back cmp (before pages (i, j)) (slot ∷ rest) apart).0 in
      ap filled
      (slots_of_set pages i (with_column page (set (column_of page) j value)) (page_is_there pages i j slot found.1)
      ∙ ap (λ page. slots_of (take i pages) ++ (page ++ following)) (column_set page j slot value found.1)
      ∙ ap (λ rest. slots_of (take i pages) ++ rest) (append_assoc (take j page) ((slot.0, value) ∷ drop (suc j) page) following)
      ∙ sym (append_assoc (slots_of (take i pages)) (take j page) ((slot.0, value) ∷ rest)))
      ∙ filled_assigned cmp key value (before pages (i, j)) slot.0 slot.1 rest front same (exact slot.0 key same) back
      ∙ ap (λ slots. assigned cmp key value (filled slots)) (sym parts)

-- the committed value of a key is at its place
pub committed_found : {K V : Type 0} {cmp : K → K → Ordering} (t : IsTotalOrder cmp) (key : K) (pages : List (List (K × Option V))) (i j : ℕ) → AreSlots cmp pages → IsPlace (λ other. cmp other key) pages (i, j)
    → value_at pages (i, j) ≡ value_of cmp key (filled (slots_of pages))
committed_found {K} {V} {cmp} t key pages i j slots place =
    subst (λ (after : List (List (K × Option V))). value_at after (i, j) ≡ value_of cmp key (filled (slots_of after))) (nothing_staged 0 pages)
    (staged_found (query_by_order t key) pages [] i j slots place)

-- a key without a slot has no committed value
pub committed_absent : {K V : Type 0} (cmp : K → K → Ordering) (key : K) (pages : List (List (K × Option V))) (i j : ℕ) → IsGap (λ other. cmp other key) pages (i, j) → value_of cmp key (filled (slots_of pages)) ≡ None
committed_absent {K} {V} cmp key pages i j gap =
    subst (λ (after : List (List (K × Option V))). value_of cmp key (filled (slots_of after)) ≡ None) (nothing_staged 0 pages)
    (staged_absent (λ other. cmp other key) pages [] i j gap)

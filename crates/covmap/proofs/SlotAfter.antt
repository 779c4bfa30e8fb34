-- The place right after a slot. If the slot comes before the queried key, and the next slot doesn't, this place is a cut.
use Rattle.std.proofs.Common.{◌≡◌, ℕ, zero, suc, ◌<◌, ◌≤◌, Bool, true, false, if◌then◌else◌, Option, List, [], ◌∷◌, ◌++◌, length, get_or, take, drop, refl, sym, ap, ◌∙◌, append_assoc, subst, arith}
use Rattle.std.specs.declared.cmp.Ordering.{Ordering}
use Rattle.std.specs.declared.cmp.Ordering.TheVariants.{Less, Equal, Greater}
use Rattle.std.specs.Ordering.{is_lt, is_eq, is_gt}
use Rattle.std.specs.List.{AllByRecursion}
use Rattle.std.specs.Prelude.{None, Some, nat_lt, slice_get}
use Rattle.std.proofs.lemmas.Bool.{cond-true, cond-false, le-ltb, lt-ltb}
use Rattle.std.proofs.lemmas.Bool.Decides.{nat_tests}
use Rattle.covmap.specs.Query.{IsQuery}
use Rattle.covmap.specs.Slots.{IsAscending, IsPage, AreSlots, slots_of, page_at, slot_at, following, before, from, order_at, IsCut, IsGap}
use Rattle.covmap.proofs.Leads.{all_append, all_weaker}
use Rattle.covmap.proofs.SlotSearch.{ascending_back, first_there, all_after, gap_at_cut}
use Rattle.covmap.proofs.SlotPages.{whole}
use Rattle.covmap.proofs.SlotPlaces.{around, before_there, page_is_there}

append_nil : {X : Type 0} (xs : List X) → xs ++ [] ≡ xs
append_nil [] = refl
append_nil (x ∷ xs) = ap (λ rest. x ∷ rest) (append_nil xs)

take_more : {X : Type 0} (xs : List X) (j : ℕ) (x : X) → slice_get xs j ≡ Some x → take (suc j) xs ≡ take j xs ++ x ∷ []
take_more [] j x e = absurd cc
take_more (y ∷ xs) zero x e = let same : y ≡ x = cc in ap (λ x. x ∷ []) same
take_more (y ∷ xs) (suc j) x e = ap (λ rest. y ∷ rest) (take_more xs j x e)

take_past : {X : Type 0} (xs : List X) (n : ℕ) → length xs ≤ n → take n xs ≡ xs
take_past [] zero l = refl
take_past [] (suc n) l = refl
take_past (x ∷ xs) zero l = absurd (omega arith)
take_past (x ∷ xs) (suc n) l = ap (λ rest. x ∷ rest) (take_past xs n (omega arith))

-- ---- the start of a page

before_start : {K V : Type 0} (pages : List (List (K × Option V))) (i : ℕ) → before pages (suc i, 0) ≡ slots_of (take i pages) ++ page_at pages i
before_start [] zero = refl
before_start [] (suc i) = refl
before_start (page ∷ pages) zero = append_nil (page ++ []) ∙ append_nil page
before_start (page ∷ pages) (suc i) =
    append_assoc page (slots_of (take (suc i) pages)) []
    ∙ ap (λ rest. page ++ rest) (before_start pages i)
    ∙ sym (append_assoc page (slots_of (take i pages)) (page_at pages i))

first_of_page : {K V : Type 0} (pages : List (List (K × Option V))) (i : ℕ) → AllByRecursion IsPage pages → slice_get (page_at pages i) 0 ≡ slice_get (from pages (i, 0)) 0
first_of_page [] zero a = refl
first_of_page [] (suc i) a = refl
first_of_page (page ∷ pages) zero a = first_there page 0 (slots_of pages) a.0.0
first_of_page (page ∷ pages) (suc i) a = first_of_page pages i a.1

-- a place whose key isn't greater than the queried one has a slot
pub place_slot : {K V : Type 0} (order : K → Ordering) (found : Option (K × Option V)) → is_gt (order_at order found) ≡ false → (slot : K × Option V) × (found ≡ Some slot) × (order_at order found ≡ order slot.0)
place_slot order None e = absurd cc
place_slot order (Some slot) e = (slot, refl, refl)

module _ {K V : Type 0} {cmp : K → K → Ordering} {order : K → Ordering} (query : IsQuery cmp order) where
  not_less_at : (slot : K × Option V) (slots : List (K × Option V)) (o : Ordering) → order slot.0 ≡ o → (o ≡ Less → ⊥) → is_lt (order slot.0) ≡ false
  not_less_at slot slots Less e none = absurd (none refl)
  not_less_at slot slots Equal e none = ap is_lt e
  not_less_at slot slots Greater e none = ap is_lt e

  not_less : (slots : List (K × Option V)) → IsAscending cmp slots → (order_at order (slice_get slots 0) ≡ Less → ⊥) → AllByRecursion (λ slot. is_lt (order slot.0) ≡ false) slots
  not_less [] a none = tt
  not_less (slot ∷ slots) a none =
      let first = not_less_at slot slots (order slot.0) refl none in
      (first, all_weaker (λ next. order next.0 ≡ Greater) (λ next. is_lt (order next.0) ≡ false) slots (λ next g. ap is_lt g) (all_after query slot slots first a.0))

  module _ (pages : List (List (K × Option V))) (i j : ℕ) (slots : AreSlots cmp pages) (slot : K × Option V) (there : slot_at pages (i, j) ≡ Some slot) where
    front_less : order slot.0 ≡ Less → AllByRecursion (λ slot. order slot.0 ≡ Less) (before pages (i, j) ++ slot ∷ [])
    front_less less =
        let rest = drop (suc j) (page_at pages i) ++ slots_of (drop (suc i) pages) in
        all_append (λ slot. order slot.0 ≡ Less) (before pages (i, j)) (slot ∷ [])
        (before_there query (before pages (i, j)) slot rest (subst (IsAscending cmp) (around query pages i j slots.ascending slot there) slots.ascending) (ap is_gt less)) (less, tt)

    before_next : before pages (i, suc j) ≡ before pages (i, j) ++ slot ∷ []
    before_next =
        ap (λ rest. slots_of (take i pages) ++ rest) (take_more (page_at pages i) j slot there)
        ∙ sym (append_assoc (slots_of (take i pages)) (take j (page_at pages i)) (slot ∷ []))

    before_page : length (page_at pages i) ≤ suc j → before pages (suc i, 0) ≡ before pages (i, j) ++ slot ∷ []
    before_page past = before_start pages i ∙ ap (λ page. slots_of (take i pages) ++ page) (sym (take_past (page_at pages i) (suc j) past)) ∙ before_next

    cut_from : (at : ℕ × ℕ) → before pages at ≡ before pages (i, j) ++ slot ∷ [] → slot_at pages at ≡ slice_get (from pages at) 0 → at.0 ≤ length pages → at.1 ≤ length (page_at pages at.0)
        → order slot.0 ≡ Less → (order_at order (slot_at pages at) ≡ Less → ⊥) → IsCut order pages at
    cut_from at front here page_there on_page less none = record {
      front = subst (AllByRecursion (λ (slot : K × Option V). order slot.0 ≡ Less)) (sym front) (front_less less);
      back = not_less (from pages at) (ascending_back cmp (before pages at) (from pages at) (subst (IsAscending cmp) (whole pages at.0 at.1) slots.ascending))
          (λ e. none (ap (order_at order) here ∙ e));
      here = here;
      page_there = page_there;
      on_page = on_page;
    }

    cut_after_at : (b : Bool) → nat_lt (suc j) (length (page_at pages i)) ≡ b → order slot.0 ≡ Less
        → (order_at order (slot_at pages (if b then (i, suc j) else (suc i, 0))) ≡ Less → ⊥) → IsCut order pages (if b then (i, suc j) else (suc i, 0))
    cut_after_at true e less none =
        let within : suc j < length (page_at pages i) = grind (arith, nat_tests) in
        cut_from (i, suc j) before_next (first_there (page_at pages i) (suc j) (slots_of (drop (suc i) pages)) within) (omega (arith, page_is_there pages i j slot there)) (omega (arith, within)) less none
    cut_after_at false e less none =
        let past : length (page_at pages i) ≤ suc j = grind (arith, nat_tests) in
        cut_from (suc i, 0) (before_page past) (first_of_page pages (suc i) slots.pages_fit) (omega (arith, page_is_there pages i j slot there)) (omega arith) less none

    cut_after : order slot.0 ≡ Less → (order_at order (slot_at pages (following pages (i, j))) ≡ Less → ⊥) → IsCut order pages (following pages (i, j))
    cut_after less none = cut_after_at (nat_lt (suc j) (length (page_at pages i))) refl less none

  -- if a slot comes before the queried key, and the next slot comes after that key, the place of the next slot is the gap
  pub gap_after_slot : (pages : List (List (K × Option V))) (i j : ℕ) (at : ℕ × ℕ) → AreSlots cmp pages → order_at order (slot_at pages (i, j)) ≡ Less → at ≡ following pages (i, j)
      → order_at order (slot_at pages at) ≡ Greater → IsGap order pages at
  gap_after_slot pages i j at slots less next greater = rw next (
      let found = place_slot order (slot_at pages (i, j)) (ap is_gt less) in
      let stands : order_at order (slot_at pages (following pages (i, j))) ≡ Greater = ap (λ at. order_at order (slot_at pages at)) (sym next) ∙ greater in
      gap_at_cut query pages (following pages (i, j)) slots.ascending (whole pages (following pages (i, j)).0 (following pages (i, j)).1)
      (cut_after pages i j slots found.0 found.1 (sym found.2 ∙ less) (λ e. apart Less stands e cc)) (λ e. apart Equal stands e cc))
    where
      apart : {o : Ordering} (p : Ordering) → o ≡ Greater → o ≡ p → (Greater ≡ p → ⊥) → ⊥
      apart p e f none = none (sym e ∙ f)

-- the place after a slot that isn't the last of its page
pub after_within : {K V : Type 0} (pages : List (List (K × Option V))) (i j next : ℕ) → next ≡ suc j → suc j < length (page_at pages i) → (i, next) ≡ following pages (i, j)
after_within pages i j next e l = ap (λ at. (i, at)) e ∙ sym (cond-true (nat_lt (suc j) (length (page_at pages i))) (i, suc j) (suc i, 0) (lt-ltb (suc j) (length (page_at pages i)) l))

-- the place after the last slot of a page
pub after_past : {K V : Type 0} (pages : List (List (K × Option V))) (i j next : ℕ) → next ≡ suc i → length (page_at pages i) ≤ suc j → (next, 0) ≡ following pages (i, j)
after_past pages i j next e l = ap (λ page. (page, 0)) e ∙ sym (cond-false (nat_lt (suc j) (length (page_at pages i))) (i, suc j) (suc i, 0) (le-ltb (suc j) (length (page_at pages i)) l))

-- if a page has a slot, it exists
pub number_within : {X : Type 0} (pages : List (List X)) (i : ℕ) → 0 < length (get_or pages i []) → i < length pages
number_within [] i l = absurd (omega arith)
number_within (page ∷ pages) zero l = omega arith
number_within (page ∷ pages) (suc i) l = omega (arith, number_within pages i l)

-- a result that isn't Equal
pub not_equal : (o : Ordering) → is_eq o ≡ false → o ≡ Equal → ⊥
not_equal Less e f = absurd cc
not_equal Equal e f = absurd cc
not_equal Greater e f = absurd cc

-- What is staged at the place of a key, before and after a value is put in there.
use Rattle.std.proofs.Common.{◌≡◌, ℕ, zero, suc, ◌<◌, false, Option, List, [], ◌∷◌, ◌++◌, length, drop, refl, sym, ap, ◌∙◌, subst, arith}
use Rattle.std.specs.Cmp.{IsTotalOrder}
use Rattle.std.specs.declared.cmp.Ordering.{Ordering}
use Rattle.std.specs.declared.cmp.Ordering.TheVariants.{Less, Equal, Greater}
use Rattle.std.specs.Ordering.{is_lt, is_eq, is_gt}
use Rattle.std.specs.Prelude.{None, Some, option_map, slice_get}
use Rattle.std.specs.List.{AllByRecursion}
use Rattle.std.specs.Map.{keys_of, lookup}
use Rattle.covmap.specs.Query.{IsQuery, query_by_order}
use Rattle.covmap.specs.Staged.{staged_from, staged_of, column_at, page_staged, with_value_at}
use Rattle.covmap.specs.Slots.{has_slot}
use Rattle.covmap.specs.Puts.{put}
use Rattle.covmap.specs.Slots.{IsAscending, AreSlots, IsGap, IsPlace, order_at, before, from, filled, page_at, slot_at, slots_of, value_at, value_in}
use Rattle.covmap.proofs.StagedWhole.{keys_page, keys_staged, staged_whole}
use Rattle.covmap.proofs.Filled.{lookup_absent, lookup_filled, filled_put}
use Rattle.covmap.proofs.SlotAfter.{place_slot}
use Rattle.covmap.proofs.SlotPages.{whole}
use Rattle.covmap.proofs.SlotPlaces.{around, before_there, value_there, written_there}
use Rattle.covmap.proofs.SlotSearch.{all_after, ascending_back}

-- ---- the keys of what is staged

key_order : {K V : Type 0} (order : K → Ordering) (xs ys : List (K × Option V)) (j : ℕ) → keys_of xs ≡ keys_of ys → order_at order (slice_get xs j) ≡ order_at order (slice_get ys j)
key_order order [] [] j e = refl
key_order order [] (y ∷ ys) j e = absurd cc
key_order order (x ∷ xs) [] j e = absurd cc
key_order order (x ∷ xs) (y ∷ ys) zero e = let first : x.0 ≡ y.0 = cc in ap order first
key_order order (x ∷ xs) (y ∷ ys) (suc j) e = key_order order xs ys j (let rest : keys_of xs ≡ keys_of ys = cc in rest)

order_staged : {K V : Type 0} (order : K → Ordering) (n i j : ℕ) (pages : List (List (K × Option V))) (columns : List (ℕ × List (Option V)))
    → order_at order (slot_at (staged_from n pages columns) (i, j)) ≡ order_at order (slot_at pages (i, j))
order_staged order n i j [] columns = refl
order_staged order n zero j (page ∷ pages) columns = key_order order (page_staged page (column_at n columns)) page j (keys_page page (column_at n columns))
order_staged order n (suc i) j (page ∷ pages) columns = order_staged order (suc n) i j pages columns

-- ---- a key without a slot

keys_passed : {K V : Type 0} (order : K → Ordering) (o : Ordering) (slots : List (K × Option V)) → is_eq o ≡ false → AllByRecursion (λ slot. order slot.0 ≡ o) slots
    → (rest : List (K × Option V)) → has_slot order (keys_of rest) ≡ false → has_slot order (keys_of (slots ++ rest)) ≡ false
keys_passed order o [] e a rest none = none
keys_passed order o (slot ∷ slots) e a rest none = rw (a.0, e) (keys_passed order o slots e a.1 rest none)

append_nil : {X : Type 0} (xs : List X) → xs ++ [] ≡ xs
append_nil [] = refl
append_nil (x ∷ xs) = ap (λ rest. x ∷ rest) (append_nil xs)

-- a key that belongs in a gap has no slot
pub gap_absent : {K V : Type 0} (order : K → Ordering) (pages : List (List (K × Option V))) (i j : ℕ) → IsGap order pages (i, j) → has_slot order (keys_of (slots_of pages)) ≡ false
gap_absent order pages i j gap =
    ap (λ slots. has_slot order (keys_of slots)) (whole pages i j)
    ∙ keys_passed order Less (before pages (i, j)) refl gap.front (from pages (i, j))
    (ap (λ slots. has_slot order (keys_of slots)) (sym (append_nil (from pages (i, j)))) ∙ keys_passed order Greater (from pages (i, j)) refl gap.back [] refl)

-- nothing is staged for a key that belongs in a gap
pub staged_absent : {K V : Type 0} (order : K → Ordering) (pages : List (List (K × Option V))) (columns : List (ℕ × List (Option V))) (i j : ℕ) → IsGap order pages (i, j)
    → lookup (λ key. is_eq (order key)) (filled (slots_of (staged_of pages columns))) ≡ None
staged_absent order pages columns i j gap =
    lookup_absent (λ key. is_eq (order key)) (slots_of (staged_of pages columns)) (ap (has_slot order) (keys_staged 0 pages columns) ∙ gap_absent order pages i j gap)

-- ---- a key with a slot

-- the key's staged value is at the key's place
pub staged_found : {K V : Type 0} {cmp : K → K → Ordering} {order : K → Ordering} → IsQuery cmp order → (pages : List (List (K × Option V))) (columns : List (ℕ × List (Option V))) (i j : ℕ)
    → AreSlots cmp pages → IsPlace order pages (i, j) → value_at (staged_of pages columns) (i, j) ≡ lookup (λ key. is_eq (order key)) (filled (slots_of (staged_of pages columns)))
staged_found {K} {V} {cmp} {order} query pages columns i j slots place =
    let after = staged_of pages columns in
    let ascending = (staged_whole cmp pages columns slots).ascending in
    let here = order_staged order 0 i j pages columns ∙ place in
    let found = place_slot order (slot_at after (i, j)) (ap is_gt here) in
    ap (λ found. value_in (option_map (λ (slot : K × Option V). slot.1) found)) found.1
    ∙ ap value_in (sym (value_there query after i j ascending found.0 found.1 (sym found.2 ∙ here)))
    ∙ sym (lookup_filled query (slots_of after) ascending)

-- to write a value at the key's place is to put it into the map under the key
pub staged_put : {K V : Type 0} {cmp : K → K → Ordering} → IsTotalOrder cmp → ((x y : K) → cmp x y ≡ Equal → x ≡ y) → (key : K) (value : V) (pages : List (List (K × Option V))) (columns : List (ℕ × List (Option V)))
    (i j : ℕ) → AreSlots cmp pages → IsPlace (λ other. cmp other key) pages (i, j)
    → filled (slots_of (with_value_at (i, j) value (staged_of pages columns))) ≡ put cmp key value (filled (slots_of (staged_of pages columns)))
staged_put {K} {V} {cmp} t exact key value pages columns i j slots place =
    let order = λ (other : K). cmp other key in
    let query = query_by_order t key in
    let after = staged_of pages columns in
    let ascending = (staged_whole cmp pages columns slots).ascending in
    let here = order_staged order 0 i j pages columns ∙ place in
    let found = place_slot order (slot_at after (i, j)) (ap is_gt here) in
    let slot = found.0 in
    let same : cmp slot.0 key ≡ Equal = sym found.2 ∙ here in
    let rest = drop (suc j) (page_at after i) ++ slots_of (drop (suc i) after) in
    let parts = around query after i j ascending slot found.1 in
    let apart = subst (IsAscending cmp) parts ascending in
    let front = before_there query (before after (i, j)) slot rest apart (ap is_gt same) in
    let back = all_after query slot rest (ap is_lt same) (ascending_back cmp (before after (i, j)) (slot ∷ rest) apart).0 in
    ap filled (written_there query after i j ascending slot value found.1)
    ∙ filled_put cmp key value (before after (i, j)) slot.0 slot.1 rest front same (exact slot.0 key same) back
    ∙ ap (λ slots. put cmp key value (filled slots)) (sym parts)

-- ---- a place is within its page

within : {X : Type 0} (xs : List X) (j : ℕ) (x : X) → slice_get xs j ≡ Some x → j < length xs
within [] j x e = absurd cc
within (y ∷ xs) zero x e = omega arith
within (y ∷ xs) (suc j) x e = omega (arith, within xs j x e)

pub place_within : {K V : Type 0} (order : K → Ordering) (pages : List (List (K × Option V))) (i j : ℕ) → IsPlace order pages (i, j) → j < length (page_at pages i)
place_within order pages i j place = let found = place_slot order (slot_at pages (i, j)) (ap is_gt place) in within (page_at pages i) j found.0 found.1

-- Slots: ascending keys, each with a value or with none. The slots are split into pages, and each slot has a place.
use Rattle.std.specs.Prelude.{◌≡◌, ℕ, zero, suc, ◌≤◌, ◌<◌, nat_lt, Bool, true, false, if◌then◌else◌, Option, Some, None, option_map, List, [], ◌∷◌, ◌++◌, length, take, drop, flat_map, slice_get, slice_index_or, slice_set}
use Rattle.std.specs.declared.cmp.Ordering.{Ordering}
use Rattle.std.specs.declared.cmp.Ordering.TheVariants.{Less, Equal, Greater}
use Rattle.std.specs.Ordering.{is_lt, is_eq}
use Rattle.std.specs.List.{AllByRecursion, insert, list_any}
use Rattle.std.specs.Map.{lookup}

-- ---- slots in one list: each key with its value, or with none

-- what is in the slot of the queried key; `None` if the key has no slot
abbrev pub slot_value : {K V : Type 0} → (K → Ordering) → List (K × Option V) → Option (Option V)
slot_value order slots = lookup (λ key. is_eq (order key)) slots

-- the queried key has a slot
abbrev pub has_slot : {K : Type 0} → (K → Ordering) → List K → Bool
has_slot order keys = list_any (λ key. is_eq (order key)) keys

-- one slot for each key. The first slots have these values, one after another, and the remaining slots are empty
abbrev pub beside : {K V : Type 0} → List K → List (Option V) → List (K × Option V)
beside [] values = []
beside (key ∷ keys) [] = (key, None) ∷ beside keys []
beside (key ∷ keys) (value ∷ values) = (key, value) ∷ beside keys values

-- this number of empty values
abbrev pub empty : {V : Type 0} → ℕ → List (Option V)
empty zero = []
empty (suc n) = None ∷ empty n

-- each key comes before those after it
abbrev pub IsAscending : {K V : Type 0} → (K → K → Ordering) → List (K × Option V) → Type 0
IsAscending cmp [] = Unit {0}
IsAscending cmp (slot ∷ slots) = AllByRecursion (λ next. cmp slot.0 next.0 ≡ Less) slots × IsAscending cmp slots

-- the filled slots, each key with its value
abbrev pub filled : {K V : Type 0} → List (K × Option V) → List (K × V)
filled [] = []
filled ((key, None) ∷ slots) = filled slots
filled ((key, Some value) ∷ slots) = (key, value) ∷ filled slots

-- ---- slots split into pages

-- all slots, in order
abbrev pub slots_of : {K V : Type 0} → List (List (K × Option V)) → List (K × Option V)
slots_of pages = flat_map (λ page. page) pages

-- a page has at least one slot, and at most 256 slots
abbrev pub IsPage : {K V : Type 0} → List (K × Option V) → Type 0
IsPage page = (0 < length page) × (length page ≤ 256)

-- pages of slots whose keys ascend
pub record AreSlots {K V : Type 0} (cmp : K → K → Ordering) (pages : List (List (K × Option V))) : Type 0 where
  pub pages_fit : AllByRecursion IsPage pages
  pub ascending : IsAscending cmp (slots_of pages)

-- the page of this number; an empty one if there is none
abbrev pub page_at : {K V : Type 0} → List (List (K × Option V)) → ℕ → List (K × Option V)
page_at pages page = slice_index_or pages page []

-- a place: the number of a page, and the number of a slot on it
abbrev pub At : Type 0
At = ℕ × ℕ

-- the slot at a place
abbrev pub slot_at : {K V : Type 0} → List (List (K × Option V)) → At → Option (K × Option V)
slot_at pages at = slice_get (page_at pages at.0) at.1

-- the value, if there is a slot and it has one
abbrev pub value_in : {V : Type 0} → Option (Option V) → Option V
value_in None = None
value_in (Some value) = value

-- the value in the slot at a place
abbrev pub value_at : {K V : Type 0} → List (List (K × Option V)) → At → Option V
value_at pages at = value_in (option_map (λ slot. slot.1) (slot_at pages at))

-- the place right after that of a slot: the next slot of its page, or the first slot of the next page
abbrev pub following : {K V : Type 0} → List (List (K × Option V)) → At → At
following pages at = if nat_lt (suc at.1) (length (page_at pages at.0)) then (at.0, suc at.1) else (suc at.0, 0)

-- the slots before a place
abbrev pub before : {K V : Type 0} → List (List (K × Option V)) → At → List (K × Option V)
before pages at = slots_of (take at.0 pages) ++ take at.1 (page_at pages at.0)

-- the slots from a place on
abbrev pub from : {K V : Type 0} → List (List (K × Option V)) → At → List (K × Option V)
from pages at = drop at.1 (page_at pages at.0) ++ slots_of (drop (suc at.0) pages)

-- all pages, with the page of this number split in two
abbrev pub with_page_split : {K V : Type 0} → ℕ → List (List (K × Option V)) → List (List (K × Option V))
with_page_split page pages = take page pages ++ take 128 (page_at pages page) ∷ drop 128 (page_at pages page) ∷ drop (suc page) pages

-- the pages after an empty slot is inserted at a place
abbrev pub with_empty : {K V : Type 0} → At → K → List (List (K × Option V)) → List (List (K × Option V))
with_empty at key pages = slice_set pages at.0 (insert (page_at pages at.0) at.1 (key, None))

-- how the key of a slot compares with the queried key. A missing slot counts as one with a greater key
abbrev pub order_at : {K V : Type 0} → (K → Ordering) → Option (K × Option V) → Ordering
order_at order None = Greater
order_at order (Some slot) = order slot.0

-- the slot at this place has the queried key
abbrev pub IsPlace : {K V : Type 0} → (K → Ordering) → List (List (K × Option V)) → At → Type 0
IsPlace order pages at = order_at order (slot_at pages at) ≡ Equal

-- the keys before a place come before the queried key, and those from it on don't
pub record IsCut {K V : Type 0} (order : K → Ordering) (pages : List (List (K × Option V))) (at : At) : Type 0 where
  pub front : AllByRecursion (λ slot. order slot.0 ≡ Less) (before pages at)
  pub back : AllByRecursion (λ slot. is_lt (order slot.0) ≡ false) (from pages at)
  pub here : slot_at pages at ≡ slice_get (from pages at) 0
  pub page_there : at.0 ≤ length pages
  pub on_page : at.1 ≤ length (page_at pages at.0)

-- the queried key would be inserted at this place: the keys before the place are less than it, and those from the place on are
-- greater
pub record IsGap {K V : Type 0} (order : K → Ordering) (pages : List (List (K × Option V))) (at : At) : Type 0 where
  pub front : AllByRecursion (λ slot. order slot.0 ≡ Less) (before pages at)
  pub back : AllByRecursion (λ slot. order slot.0 ≡ Greater) (from pages at)
  pub page_there : at.0 ≤ length pages
  pub on_page : at.1 ≤ length (page_at pages at.0)

-- ---- searching

-- how many items at the front of a list pass a test
abbrev pub lead : {X : Type 0} → (X → Bool) → List X → ℕ
lead test [] = 0
lead test (x ∷ xs) = if test x then suc (lead test xs) else 0

-- the slot's key comes before the queried key
abbrev pub is_before : {K V : Type 0} → (K → Ordering) → K × Option V → Bool
is_before order slot = is_lt (order slot.0)

-- the last key of the page comes before the queried key
abbrev pub ends_before : {K V : Type 0} → (K → Ordering) → List (K × Option V) → Bool
ends_before order [] = true
ends_before order (slot ∷ []) = is_before order slot
ends_before order (slot ∷ next ∷ slots) = ends_before order (next ∷ slots)

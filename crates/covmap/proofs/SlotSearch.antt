-- Where a key is among ascending slots, or would be inserted.
use Rattle.std.proofs.Common.{◌≡◌, ℕ, zero, suc, ◌<◌, Bool, true, false, Option, List, [], ◌∷◌, ◌++◌, length, take, drop, map, refl, sym, ap, ◌∙◌, if◌then◌else◌, append_assoc, arith}
use Rattle.std.specs.declared.cmp.Ordering.{Ordering}
use Rattle.std.specs.declared.cmp.Ordering.TheVariants.{Less, Equal, Greater}
use Rattle.std.specs.Ordering.{is_lt, is_gt}
use Rattle.std.specs.List.{AllByRecursion}
use Rattle.std.specs.Prelude.{slice_get, option_map, Some, None}
use Rattle.std.specs.Borrow.{Bor}
use Rattle.std.specs.Slice.{IsItemAt}
use Rattle.std.proofs.lemmas.Option.{slice_get_past, slice_get-get_or}
use Rattle.covmap.specs.Query.{IsQuery}
use Rattle.covmap.specs.Slots.{IsAscending, IsPage, slots_of, page_at, At, before, from, IsPlace, IsCut, IsGap, order_at, lead, is_before, ends_before}
use Rattle.covmap.proofs.Leads.{all_append, all_front, all_back, all_weaker, IsFalling, lead_le, lead_passes}

-- ---- ascending slots

pub ascending_front : {K V : Type 0} (cmp : K → K → Ordering) (xs ys : List (K × Option V)) → IsAscending cmp (xs ++ ys) → IsAscending cmp xs
ascending_front cmp [] ys a = tt
ascending_front cmp (x ∷ xs) ys a = (all_front (λ next. cmp x.0 next.0 ≡ Less) xs ys a.0, ascending_front cmp xs ys a.1)

pub ascending_back : {K V : Type 0} (cmp : K → K → Ordering) (xs ys : List (K × Option V)) → IsAscending cmp (xs ++ ys) → IsAscending cmp ys
ascending_back cmp [] ys a = a
ascending_back cmp (x ∷ xs) ys a = ascending_back cmp xs ys a.1

is_Less : (o : Ordering) → is_lt o ≡ true → o ≡ Less
is_Less Less e = refl
is_Less Equal e = absurd cc
is_Less Greater e = absurd cc

not_lt : (o : Ordering) → o ≡ Greater → is_lt o ≡ false
not_lt Less e = absurd cc
not_lt Equal e = absurd cc
not_lt Greater e = refl

not_gt : (o : Ordering) → o ≡ Less → is_gt o ≡ false
not_gt Less e = refl
not_gt Equal e = absurd cc
not_gt Greater e = absurd cc

lead_below_one : (b : Bool) → b ≡ false → (if b then 1 else 0) < 1
lead_below_one true e = absurd cc
lead_below_one false e = omega arith

-- the slot at an index of a page is the first of the slots from this index on
pub first_there : {V : Type 0} (page : List V) (index : ℕ) (rest : List V) → index < length page → slice_get page index ≡ slice_get (drop index page ++ rest) 0
first_there [] index rest l = absurd (omega arith)
first_there (x ∷ xs) zero rest l = refl
first_there (x ∷ xs) (suc index) rest l = first_there xs index rest (omega arith)

module _ {K V : Type 0} {cmp : K → K → Ordering} {order : K → Ordering} (query : IsQuery cmp order) where
  -- after a slot that doesn't come before the queried key, all slots are greater
  pub all_after : (slot : K × Option V) (slots : List (K × Option V)) → is_lt (order slot.0) ≡ false → AllByRecursion (λ next. cmp slot.0 next.0 ≡ Less) slots
      → AllByRecursion (λ next. order next.0 ≡ Greater) slots
  all_after slot slots e a = all_weaker (λ next. cmp slot.0 next.0 ≡ Less) (λ next. order next.0 ≡ Greater) slots (λ next l. query.following slot.0 next.0 l e) a

  pub slots_fall : (slots : List (K × Option V)) → IsAscending cmp slots → IsFalling (is_before order) slots
  slots_fall [] a = tt
  slots_fall (slot ∷ slots) a = (λ e. all_weaker (λ next. order next.0 ≡ Greater) (λ next. is_lt (order next.0) ≡ false) slots (λ next g. not_lt (order next.0) g) (all_after slot slots e a.0), slots_fall slots a.1)

  after_lead_at : (slot : K × Option V) (slots : List (K × Option V)) → IsAscending cmp (slot ∷ slots) → (b : Bool) → is_lt (order slot.0) ≡ b
      → AllByRecursion (λ slot. is_lt (order slot.0) ≡ false) (drop (lead (is_before order) slots) slots)
      → AllByRecursion (λ slot. is_lt (order slot.0) ≡ false) (drop (if b then suc (lead (is_before order) slots) else 0) (slot ∷ slots))
  after_lead_at slot slots a true e rest = rest
  after_lead_at slot slots a false e rest =
      (e, all_weaker (λ next. order next.0 ≡ Greater) (λ next. is_lt (order next.0) ≡ false) slots (λ next g. not_lt (order next.0) g) (all_after slot slots e a.0))

  -- a page that doesn't end before the queried key has a slot after the lead
  lead_below_at : (slot : K × Option V) (slots : List (K × Option V)) (b : Bool) → lead (is_before order) slots < length slots → (if b then suc (lead (is_before order) slots) else 0) < suc (length slots)
  lead_below_at slot slots true l = omega arith
  lead_below_at slot slots false l = omega arith

  lead_below : (page : List (K × Option V)) → ends_before order page ≡ false → lead (is_before order) page < length page
  lead_below [] e = absurd cc
  lead_below (slot ∷ []) e = lead_below_one (is_before order slot) e
  lead_below (slot ∷ next ∷ slots) e = lead_below_at slot (next ∷ slots) (is_before order slot) (lead_below (next ∷ slots) e)

  -- the slots from the lead on don't come before the queried key
  pub after_lead : (slots : List (K × Option V)) → IsAscending cmp slots → AllByRecursion (λ slot. is_lt (order slot.0) ≡ false) (drop (lead (is_before order) slots) slots)
  after_lead [] a = tt
  after_lead (slot ∷ slots) a = after_lead_at slot slots a (is_lt (order slot.0)) refl (after_lead slots a.1)

  -- ---- a page, and those after it

  -- if the last key of a page comes before the queried key, all its keys do
  pub page_before : (page : List (K × Option V)) → IsAscending cmp page → ends_before order page ≡ true → AllByRecursion (λ slot. order slot.0 ≡ Less) page
  page_before [] a e = tt
  page_before (slot ∷ []) a e = (is_Less (order slot.0) e, tt)
  page_before (slot ∷ next ∷ slots) a e =
      let rest = page_before (next ∷ slots) a.1 e in
      (query.before slot.0 next.0 a.0.0 (not_gt (order next.0) rest.0), rest)

  -- if the last key of a page doesn't come before the queried key, all slots after the page are greater than the queried key
  pub after_page : (page slots : List (K × Option V)) → IsAscending cmp (page ++ slots) → ends_before order page ≡ false → AllByRecursion (λ slot. order slot.0 ≡ Greater) slots
  after_page [] slots a e = absurd cc
  after_page (slot ∷ []) slots a e = all_after slot slots e a.0
  after_page (slot ∷ next ∷ rest) slots a e = after_page (next ∷ rest) slots a.1 e

  -- a page whose slots are greater than the queried key doesn't end before it
  page_after : (page : List (K × Option V)) → 0 < length page → AllByRecursion (λ slot. order slot.0 ≡ Greater) page → ends_before order page ≡ false
  page_after [] l a = absurd (omega arith)
  page_after (slot ∷ []) l a = not_lt (order slot.0) a.0
  page_after (slot ∷ next ∷ slots) l a = page_after (next ∷ slots) (omega arith) a.1

  pages_after : (pages : List (List (K × Option V))) → AllByRecursion IsPage pages → AllByRecursion (λ slot. order slot.0 ≡ Greater) (slots_of pages)
      → AllByRecursion (λ page. ends_before order page ≡ false) pages
  pages_after [] p a = tt
  pages_after (page ∷ pages) p a =
      (page_after page p.0.0 (all_front (λ slot. order slot.0 ≡ Greater) page (slots_of pages) a), pages_after pages p.1 (all_back (λ slot. order slot.0 ≡ Greater) page (slots_of pages) a))

  pub pages_fall : (pages : List (List (K × Option V))) → AllByRecursion IsPage pages → IsAscending cmp (slots_of pages) → IsFalling (ends_before order) pages
  pages_fall [] p a = tt
  pages_fall (page ∷ pages) p a = (λ e. pages_after pages p.1 (after_page page (slots_of pages) a e), pages_fall pages p.1 (ascending_back cmp page (slots_of pages) a))

  -- ---- the cut

  cut_here : (page : List (K × Option V)) (pages : List (List (K × Option V))) → IsAscending cmp (page ++ slots_of pages) → ends_before order page ≡ false → IsCut order (page ∷ pages) (0, lead (is_before order) page)
  cut_here page pages a e =
      let index = lead (is_before order) page in
      let alone = ascending_front cmp page (slots_of pages) a in
      let above = after_page page (slots_of pages) a e in
      record {
        front = all_weaker (λ slot. is_lt (order slot.0) ≡ true) (λ slot. order slot.0 ≡ Less) (take index page) (λ slot l. is_Less (order slot.0) l) (lead_passes (is_before order) page);
        back = all_append (λ slot. is_lt (order slot.0) ≡ false) (drop index page) (slots_of pages) (after_lead page alone)
            (all_weaker (λ slot. order slot.0 ≡ Greater) (λ slot. is_lt (order slot.0) ≡ false) (slots_of pages) (λ slot g. not_lt (order slot.0) g) above);
        here = first_there page index (slots_of pages) (lead_below page e);
        page_there = omega arith;
        on_page = lead_le (is_before order) page;
      }

  cut_next : (page : List (K × Option V)) (pages : List (List (K × Option V))) (at : At) → IsAscending cmp page → ends_before order page ≡ true → IsCut order pages at → IsCut order (page ∷ pages) (suc at.0, at.1)
  cut_next page pages at a e cut = record {
    front = rw append_assoc (all_append (λ slot. order slot.0 ≡ Less) page (before pages at) (page_before page a e) cut.front);
    back = cut.back;
    here = cut.here;
    page_there = omega (arith, cut.page_there);
    on_page = cut.on_page;
  }

  is_cut_at : (page : List (K × Option V)) (pages : List (List (K × Option V))) → IsAscending cmp (page ++ slots_of pages) → (b : Bool) → ends_before order page ≡ b
      → IsCut order pages (lead (ends_before order) pages, lead (is_before order) (page_at pages (lead (ends_before order) pages)))
      → IsCut order (page ∷ pages) (if b then suc (lead (ends_before order) pages) else 0, lead (is_before order) (page_at (page ∷ pages) (if b then suc (lead (ends_before order) pages) else 0)))
  is_cut_at page pages a true e rest = cut_next page pages (lead (ends_before order) pages, lead (is_before order) (page_at pages (lead (ends_before order) pages))) (ascending_front cmp page (slots_of pages) a) e rest
  is_cut_at page pages a false e rest = cut_here page pages a e

  -- the first page that doesn't end before the queried key, and its first slot that doesn't come before it: this is a cut
  pub is_cut : (pages : List (List (K × Option V))) → IsAscending cmp (slots_of pages)
      → IsCut order pages (lead (ends_before order) pages, lead (is_before order) (page_at pages (lead (ends_before order) pages)))
  is_cut [] a = record { front = tt; back = tt; here = refl; page_there = omega arith; on_page = omega arith }
  is_cut (page ∷ pages) a = is_cut_at page pages a (ends_before order page) refl (is_cut pages (ascending_back cmp page (slots_of pages) a))

  gap_after_at : (slot : K × Option V) (slots : List (K × Option V)) (o : Ordering) → order slot.0 ≡ o → is_lt o ≡ false → (o ≡ Equal → ⊥)
      → AllByRecursion (λ next. order next.0 ≡ Greater) slots → AllByRecursion (λ next. order next.0 ≡ Greater) (slot ∷ slots)
  gap_after_at slot slots Less e l none a = absurd cc
  gap_after_at slot slots Equal e l none a = absurd (none refl)
  gap_after_at slot slots Greater e l none a = (e, a)

  gap_after : (slots : List (K × Option V)) → IsAscending cmp slots → AllByRecursion (λ slot. is_lt (order slot.0) ≡ false) slots
      → (order_at order (slice_get slots 0) ≡ Equal → ⊥) → AllByRecursion (λ slot. order slot.0 ≡ Greater) slots
  gap_after [] a b none = tt
  gap_after (slot ∷ slots) a b none = gap_after_at slot slots (order slot.0) refl b.0 none (all_after slot slots b.0 a.0)

  -- if the queried key isn't at the cut, the cut is its gap
  pub gap_at_cut : (pages : List (List (K × Option V))) (at : At) → IsAscending cmp (slots_of pages) → slots_of pages ≡ before pages at ++ from pages at
      → IsCut order pages at → (IsPlace order pages at → ⊥) → IsGap order pages at
  gap_at_cut pages at a whole cut none = record {
    front = cut.front;
    back = gap_after (from pages at) (ascending_back cmp (before pages at) (from pages at) (rw whole at a)) cut.back (λ e. none (ap (order_at order) cut.here ∙ e));
    page_there = cut.page_there;
    on_page = cut.on_page;
  }

pub length_map : {P X : Type 0} (f : P → X) (ps : List P) → length (map f ps) ≡ length ps
length_map f [] = refl
length_map f (p ∷ ps) = ap suc (length_map f ps)

-- each page ascends
pub page_ascending : {K V : Type 0} (cmp : K → K → Ordering) (pages : List (List (K × Option V))) (i : ℕ) → IsAscending cmp (slots_of pages) → IsAscending cmp (page_at pages i)
page_ascending cmp [] i a = tt
page_ascending cmp (page ∷ pages) zero a = ascending_front cmp page (slots_of pages) a
page_ascending cmp (page ∷ pages) (suc i) a = page_ascending cmp pages i (ascending_back cmp page (slots_of pages) a)

-- what `get` returns is the item at that index
pub item_at : {X : Type 0} (xs : List X) (i : ℕ) (r : Option (Bor X)) → IsItemAt xs i r → option_map (λ item. item.now) r ≡ slice_get xs i
item_at xs i None h = sym (slice_get_past xs i h.3)
item_at xs i (Some item) h = sym (slice_get-get_or xs i item.now h.3.0 ∙ ap Some (sym h.1))

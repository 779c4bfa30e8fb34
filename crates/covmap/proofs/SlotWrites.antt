-- The slots after a key is inserted at its gap: they still ascend.
use Rattle.std.proofs.Common.{◌≡◌, ℕ, zero, suc, ◌+◌, ◌<◌, ◌≤◌, Bool, true, false, Option, List, [], ◌∷◌, ◌++◌, length, get_or, take, drop, set, map, refl, sym, ap, ◌∙◌, append_assoc, subst, arith}
use Rattle.std.specs.Cmp.{IsTotalOrder}
use Rattle.std.specs.declared.cmp.Ordering.{Ordering}
use Rattle.std.specs.declared.cmp.Ordering.TheVariants.{Less, Greater}
use Rattle.std.specs.Ordering.{ordering_reverse}
use Rattle.std.specs.List.{AllByRecursion, insert}
use mathlib.Core.Bool.{false≢true}
use Rattle.std.specs.Prelude.{None, IsTrue, ◌↔◌, Result, Ok, Err, OnErr, OnOk}
use Rattle.std.proofs.lemmas.List.Edits.{length-insert}
use Rattle.covmap.specs.Slots.{IsAscending, IsPage, AreSlots, slots_of, page_at, before, from, IsGap}
use Rattle.covmap.proofs.Leads.{all_append, all_front, all_back, all_weaker}
use Rattle.covmap.proofs.SlotPages.{whole}

pub take_all : {X : Type 0} (xs : List X) → take (length xs) xs ≡ xs
take_all [] = refl
take_all (x ∷ xs) = ap (λ rest. x ∷ rest) (take_all xs)

drop_all : {X : Type 0} (xs : List X) → drop (length xs) xs ≡ []
drop_all [] = refl
drop_all (x ∷ xs) = drop_all xs

pub append_nil : {X : Type 0} (xs : List X) → xs ++ [] ≡ xs
append_nil [] = refl
append_nil (x ∷ xs) = ap (λ rest. x ∷ rest) (append_nil xs)

-- ---- in one list

-- inserting a key at its gap keeps the order
pub ascending_with : {K V : Type 0} {cmp : K → K → Ordering} → IsTotalOrder cmp → (key : K) (value : Option V) (front back : List (K × Option V))
    → AllByRecursion (λ slot. cmp slot.0 key ≡ Less) front → AllByRecursion (λ slot. cmp slot.0 key ≡ Greater) back → IsAscending cmp (front ++ back) → IsAscending cmp (front ++ (key, value) ∷ back)
ascending_with {K} {V} {cmp} t key value [] back a b asc =
    (all_weaker (λ slot. cmp slot.0 key ≡ Greater) (λ slot. cmp key slot.0 ≡ Less) back (λ slot g. t.antisymm key slot.0 ∙ ap ordering_reverse g) b, asc)
ascending_with {K} {V} {cmp} t key value (slot ∷ front) back a b asc =
    let next = λ (other : K × Option V). cmp slot.0 other.0 ≡ Less in
    (all_append next front ((key, value) ∷ back) (all_front next front back asc.0) (a.0, all_back next front back asc.0), ascending_with t key value front back a.1 b asc.1)

-- ---- over pages

pub slots_of_set : {K V : Type 0} (pages : List (List (K × Option V))) (i : ℕ) (page : List (K × Option V)) → i < length pages
    → slots_of (set pages i page) ≡ slots_of (take i pages) ++ (page ++ slots_of (drop (suc i) pages))
slots_of_set [] i page l = absurd (omega arith)
slots_of_set (first ∷ pages) zero page l = refl
slots_of_set (first ∷ pages) (suc i) page l = ap (λ rest. first ++ rest) (slots_of_set pages i page (omega arith)) ∙ sym (append_assoc first (slots_of (take i pages)) (page ++ slots_of (drop (suc i) pages)))

-- a slot inserted on a page is between what was before its place and what was from there on
pub slots_put : {K V : Type 0} (pages : List (List (K × Option V))) (i j : ℕ) (slot : K × Option V) → i < length pages
    → slots_of (set pages i (insert (page_at pages i) j slot)) ≡ before pages (i, j) ++ slot ∷ from pages (i, j)
slots_put pages i j slot l =
    let page = page_at pages i in
    let following = slots_of (drop (suc i) pages) in
    let front = slots_of (take i pages) in
    slots_of_set pages i (insert page j slot) l
    ∙ ap (λ rest. front ++ rest) (append_assoc (take j page) (slot ∷ drop j page) following)
    ∙ sym (append_assoc front (take j page) (slot ∷ drop j page ++ following))

pub pages_fit_set : {K V : Type 0} (pages : List (List (K × Option V))) (i : ℕ) (page : List (K × Option V)) → AllByRecursion IsPage pages → IsPage page → AllByRecursion IsPage (set pages i page)
pages_fit_set [] i page a p = tt
pages_fit_set (first ∷ pages) zero page a p = (p, a.1)
pages_fit_set (first ∷ pages) (suc i) page a p = (a.0, pages_fit_set pages i page a.1 p)

-- the pages as contracts see them, after a write to one of them
pub map_set : {P X : Type 0} (f : P → X) (ps : List P) (i : ℕ) (p : P) → map f (set ps i p) ≡ set (map f ps) i (f p)
map_set f [] i p = refl
map_set f (q ∷ ps) zero p = refl
map_set f (q ∷ ps) (suc i) p = ap (λ rest. f q ∷ rest) (map_set f ps i p)

pub set_same : {X : Type 0} (pages : List (List X)) (i : ℕ) → set pages i (get_or pages i []) ≡ pages
set_same [] i = refl
set_same (page ∷ pages) zero = refl
set_same (page ∷ pages) (suc i) = ap (λ rest. page ∷ rest) (set_same pages i)

-- slots stay valid if a key is inserted at its gap on a page with room
pub put_whole : {K V : Type 0} {cmp : K → K → Ordering} → IsTotalOrder cmp → (pages : List (List (K × Option V))) (i j : ℕ) (key : K) → AreSlots cmp pages
    → IsGap (λ other. cmp other key) pages (i, j) → i < length pages → length (page_at pages i) < 256 → AreSlots cmp (set pages i (insert (page_at pages i) j (key, None)))
put_whole {K} {V} {cmp} t pages i j key slots gap there room =
    let length_new = length-insert (page_at pages i) j (key, None) gap.on_page in
    record {
      pages_fit = pages_fit_set pages i (insert (page_at pages i) j (key, None)) slots.pages_fit (omega (arith, length_new), omega (arith, length_new, room));
      ascending = subst (IsAscending cmp) (sym (slots_put pages i j (key, None) there))
          (ascending_with t key None (before pages (i, j)) (from pages (i, j)) gap.front gap.back (subst (IsAscending cmp) (whole pages i j) slots.ascending));
    }

pub not_there : {P : Type 0} (b : Bool) → IsTrue b ↔ P → b ≡ false → P → ⊥
not_there true e f p = absurd cc
not_there false e f p = false≢true (e.1 p)

pub on_err : {T E P : Type 0} (r : Result T E) → P → OnErr r P
on_err (Ok x) p = tt
on_err (Err x) p = p

pub on_ok_more : {T E P Q : Type 0} (r : Result T E) → (P → Q) → OnOk r P → OnOk r Q
on_ok_more (Ok x) f p = f p
on_ok_more (Err x) f p = tt

pub page_le : {K V : Type 0} (pages : List (List (K × Option V))) (i : ℕ) → AllByRecursion IsPage pages → length (page_at pages i) ≤ 256
page_le [] i a = omega arith
page_le (page ∷ pages) zero a = a.0.1
page_le (page ∷ pages) (suc i) a = page_le pages i a.1

-- ---- after all pages

pub nothing_past : {K V : Type 0} (pages : List (List (K × Option V))) (i j : ℕ) → length pages ≤ i → from pages (i, j) ≡ []
nothing_past [] i zero l = refl
nothing_past [] i (suc j) l = refl
nothing_past (page ∷ pages) zero j l = absurd (omega arith)
nothing_past (page ∷ pages) (suc i) j l = nothing_past pages i j (omega arith)

pub all_past : {K V : Type 0} (order : K → Ordering) (pages : List (List (K × Option V))) (i j : ℕ) → length pages ≤ i → AllByRecursion (λ slot. order slot.0 ≡ Less) (before pages (i, j))
    → AllByRecursion (λ slot. order slot.0 ≡ Less) (slots_of pages)
all_past {K} {V} order pages i j l a =
    let parts : slots_of pages ≡ before pages (i, j) ++ [] = whole pages i j ∙ ap (λ rest. before pages (i, j) ++ rest) (nothing_past pages i j l) in
    subst (AllByRecursion (λ (slot : K × Option V). order slot.0 ≡ Less)) (sym parts) (all_append (λ slot. order slot.0 ≡ Less) (before pages (i, j)) [] a tt)

pub last_before : {K V : Type 0} (pages : List (List (K × Option V))) (i : ℕ) → i + 1 ≡ length pages → before pages (i, length (page_at pages i)) ≡ slots_of pages
last_before [] i e = absurd (omega arith)
last_before (page ∷ []) zero e = take_all page ∙ sym (append_nil page)
last_before (page ∷ next ∷ pages) zero e = absurd (omega arith)
last_before (page ∷ pages) (suc i) e = append_assoc page (slots_of (take i pages)) (take (length (page_at pages i)) (page_at pages i)) ∙ ap (λ rest. page ++ rest) (last_before pages i (omega arith))

pub last_from : {K V : Type 0} (pages : List (List (K × Option V))) (i : ℕ) → i + 1 ≡ length pages → from pages (i, length (page_at pages i)) ≡ []
last_from [] i e = absurd (omega arith)
last_from (page ∷ []) zero e = ap (λ rest. rest ++ []) (drop_all page)
last_from (page ∷ next ∷ pages) zero e = absurd (omega arith)
last_from (page ∷ pages) (suc i) e = last_from pages i (omega arith)

-- the end of the last page is the gap of a key greater than all others
pub last_gap : {K V : Type 0} (order : K → Ordering) (pages : List (List (K × Option V))) (i j : ℕ) → i + 1 ≡ length pages → j ≡ length (page_at pages i)
    → AllByRecursion (λ slot. order slot.0 ≡ Less) (slots_of pages) → IsGap order pages (i, j)
last_gap {K} {V} order pages i j e same a = rw same (record {
  front = subst (AllByRecursion (λ (slot : K × Option V). order slot.0 ≡ Less)) (sym (last_before pages i e)) a;
  back = subst (AllByRecursion (λ (slot : K × Option V). order slot.0 ≡ Greater)) (sym (last_from pages i e)) tt;
  page_there = omega arith;
  on_page = omega arith;
})

pub slots_push : {K V : Type 0} (pages : List (List (K × Option V))) (page : List (K × Option V)) → slots_of (pages ++ page ∷ []) ≡ slots_of pages ++ page
slots_push [] page = append_nil page
slots_push (first ∷ pages) page = ap (λ rest. first ++ rest) (slots_push pages page) ∙ sym (append_assoc first (slots_of pages) page)

pub push_whole : {K V : Type 0} {cmp : K → K → Ordering} → IsTotalOrder cmp → (pages : List (List (K × Option V))) (key : K) → AreSlots cmp pages
    → AllByRecursion (λ slot. cmp slot.0 key ≡ Less) (slots_of pages) → AreSlots cmp (pages ++ ((key, None) ∷ []) ∷ [])
push_whole {K} {V} {cmp} t pages key slots a = record {
  pages_fit = all_append IsPage pages (((key, None) ∷ []) ∷ []) slots.pages_fit ((omega arith, omega arith), tt);
  ascending = subst (IsAscending cmp) (sym (slots_push pages ((key, None) ∷ []))) (ascending_with t key None (slots_of pages) [] a tt (subst (IsAscending cmp) (sym (append_nil (slots_of pages))) slots.ascending));
}

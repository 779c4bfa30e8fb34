-- A page split in two: the slots stay, and so do those before a place and from it on.
use Rattle.std.proofs.Common.{◌≡◌, ℕ, zero, suc, ◌+◌, ◌<◌, ◌≤◌, Option, List, [], ◌∷◌, ◌++◌, length, take, drop, set, refl, sym, ap, ◌∙◌, append_assoc, subst, arith, length-take, length-drop}
use Rattle.std.specs.declared.cmp.Ordering.{Ordering}
use Rattle.std.specs.declared.cmp.Ordering.TheVariants.{Less, Greater}
use Rattle.std.specs.List.{AllByRecursion, insert}
use Rattle.covmap.specs.Slots.{IsAscending, IsPage, AreSlots, slots_of, page_at, before, from, IsGap, with_page_split}

-- ---- a list split in two

take_take : {X : Type 0} (xs : List X) (n j : ℕ) → j ≤ n → take j (take n xs) ≡ take j xs
take_take xs n zero l = refl
take_take xs zero (suc j) l = absurd (omega arith)
take_take [] (suc n) (suc j) l = refl
take_take (x ∷ xs) (suc n) (suc j) l = ap (λ rest. x ∷ rest) (take_take xs n j (omega arith))

take_drop : {X : Type 0} (xs : List X) (n : ℕ) → take n xs ++ drop n xs ≡ xs
take_drop xs zero = refl
take_drop [] (suc n) = refl
take_drop (x ∷ xs) (suc n) = ap (λ rest. x ∷ rest) (take_drop xs n)

drop_take : {X : Type 0} (xs : List X) (n j : ℕ) → j ≤ n → drop j (take n xs) ++ drop n xs ≡ drop j xs
drop_take xs n zero l = take_drop xs n
drop_take xs zero (suc j) l = absurd (omega arith)
drop_take [] (suc n) (suc j) l = refl
drop_take (x ∷ xs) (suc n) (suc j) l = drop_take xs n j (omega arith)

take_past : {X : Type 0} (xs : List X) (n k j : ℕ) → n + k ≡ j → n ≤ length xs → take n xs ++ take k (drop n xs) ≡ take j xs
take_past xs zero k j e l = ap (λ m. take m xs) (omega arith)
take_past [] (suc n) k j e l = absurd (omega arith)
take_past (x ∷ xs) (suc n) k zero e l = absurd (omega arith)
take_past (x ∷ xs) (suc n) k (suc j) e l = ap (λ rest. x ∷ rest) (take_past xs n k j (omega arith) (omega arith))

drop_past : {X : Type 0} (xs : List X) (n k j : ℕ) → n + k ≡ j → n ≤ length xs → drop k (drop n xs) ≡ drop j xs
drop_past xs zero k j e l = ap (λ m. drop m xs) (omega arith)
drop_past [] (suc n) k j e l = absurd (omega arith)
drop_past (x ∷ xs) (suc n) k zero e l = absurd (omega arith)
drop_past (x ∷ xs) (suc n) k (suc j) e l = drop_past xs n k j (omega arith) (omega arith)

append_nil : {X : Type 0} (xs : List X) → xs ++ [] ≡ xs
append_nil [] = refl
append_nil (x ∷ xs) = ap (λ rest. x ∷ rest) (append_nil xs)

-- ---- the pages

pub split_slots : {K V : Type 0} (pages : List (List (K × Option V))) (i : ℕ) → i < length pages → slots_of (with_page_split i pages) ≡ slots_of pages
split_slots [] i l = absurd (omega arith)
split_slots (page ∷ pages) zero l = sym (append_assoc (take 128 page) (drop 128 page) (slots_of pages)) ∙ ap (λ page. page ++ slots_of pages) (take_drop page 128)
split_slots (page ∷ pages) (suc i) l = ap (λ rest. page ++ rest) (split_slots pages i (omega arith))

pub split_fit : {K V : Type 0} (pages : List (List (K × Option V))) (i : ℕ) → length (page_at pages i) ≡ 256 → AllByRecursion IsPage pages → AllByRecursion IsPage (with_page_split i pages)
split_fit [] i e a = absurd (omega arith)
split_fit (page ∷ pages) zero e a =
    let front = length-take 128 page in
    let back = length-drop 128 page in
    ((omega arith, omega arith), ((omega arith, omega arith), a.1))
split_fit (page ∷ pages) (suc i) e a = (a.0, split_fit pages i e a.1)

pub split_whole : {K V : Type 0} (cmp : K → K → Ordering) (pages : List (List (K × Option V))) (i : ℕ) → i < length pages → length (page_at pages i) ≡ 256 → AreSlots cmp pages
    → AreSlots cmp (with_page_split i pages)
split_whole cmp pages i l e slots = record { pages_fit = split_fit pages i e slots.pages_fit; ascending = subst (IsAscending cmp) (sym (split_slots pages i l)) slots.ascending }

-- the pages after the split, as the code writes them
list_split : {P : Type 0} (ps : List P) (i : ℕ) (p q : P) → i < length ps → insert (set ps i p) (suc i) q ≡ take i ps ++ p ∷ q ∷ drop (suc i) ps
list_split [] i p q l = absurd (omega arith)
list_split (r ∷ ps) zero p q l = refl
list_split (r ∷ ps) (suc i) p q l = ap (λ rest. r ∷ rest) (list_split ps i p q (omega arith))

pub split_seen : {K V : Type 0} (pages : List (List (K × Option V))) (i : ℕ) (p q : List (K × Option V)) → i < length pages → p ≡ take 128 (page_at pages i) → q ≡ drop 128 (page_at pages i)
    → insert (set pages i p) (i + 1) q ≡ with_page_split i pages
split_seen {K} {V} pages i p q within e f =
    let next : i + 1 ≡ suc i = omega arith in
    ap (λ n. insert (set pages i p) n q) next
    ∙ list_split pages i p q within
    ∙ ap (λ page. take i pages ++ page ∷ q ∷ drop (suc i) pages) e
    ∙ ap (λ page. take i pages ++ take 128 (page_at pages i) ∷ page ∷ drop (suc i) pages) f

-- ---- a place on the first half

pub page_low : {K V : Type 0} (pages : List (List (K × Option V))) (i : ℕ) → i < length pages → page_at (with_page_split i pages) i ≡ take 128 (page_at pages i)
page_low [] i l = absurd (omega arith)
page_low (page ∷ pages) zero l = refl
page_low (page ∷ pages) (suc i) l = page_low pages i (omega arith)

before_low : {K V : Type 0} (pages : List (List (K × Option V))) (i j : ℕ) → i < length pages → j ≤ 128 → before (with_page_split i pages) (i, j) ≡ before pages (i, j)
before_low [] i j l m = absurd (omega arith)
before_low (page ∷ pages) zero j l m = take_take page 128 j m
before_low (page ∷ pages) (suc i) j l m =
    append_assoc page (slots_of (take i (with_page_split i pages))) (take j (page_at (with_page_split i pages) i))
    ∙ ap (λ rest. page ++ rest) (before_low pages i j (omega arith) m)
    ∙ sym (append_assoc page (slots_of (take i pages)) (take j (page_at pages i)))

from_low : {K V : Type 0} (pages : List (List (K × Option V))) (i j : ℕ) → i < length pages → j ≤ 128 → from (with_page_split i pages) (i, j) ≡ from pages (i, j)
from_low [] i j l m = absurd (omega arith)
from_low (page ∷ pages) zero j l m = sym (append_assoc (drop j (take 128 page)) (drop 128 page) (slots_of pages)) ∙ ap (λ page. page ++ slots_of pages) (drop_take page 128 j m)
from_low (page ∷ pages) (suc i) j l m = from_low pages i j (omega arith) m

pub split_length : {K V : Type 0} (pages : List (List (K × Option V))) (i : ℕ) → i < length pages → length (with_page_split i pages) ≡ length pages + 1
split_length [] i l = absurd (omega arith)
split_length (page ∷ pages) zero l = omega arith
split_length (page ∷ pages) (suc i) l = omega (arith, split_length pages i (omega arith))

pub gap_low : {K V : Type 0} (order : K → Ordering) (pages : List (List (K × Option V))) (i j : ℕ) → i < length pages → length (page_at pages i) ≡ 256 → j ≤ 128 → IsGap order pages (i, j)
    → IsGap order (with_page_split i pages) (i, j)
gap_low {K} {V} order pages i j l full m gap = record {
  front = subst (AllByRecursion (λ (slot : K × Option V). order slot.0 ≡ Less)) (sym (before_low pages i j l m)) gap.front;
  back = subst (AllByRecursion (λ (slot : K × Option V). order slot.0 ≡ Greater)) (sym (from_low pages i j l m)) gap.back;
  page_there = omega (arith, split_length pages i l);
  on_page = rw (page_low pages i l) (omega (arith, length-take 128 (page_at pages i)));
}

-- ---- a place on the second half

pub page_high : {K V : Type 0} (pages : List (List (K × Option V))) (i : ℕ) → i < length pages → page_at (with_page_split i pages) (suc i) ≡ drop 128 (page_at pages i)
page_high [] i l = absurd (omega arith)
page_high (page ∷ pages) zero l = refl
page_high (page ∷ pages) (suc i) l = page_high pages i (omega arith)

before_high : {K V : Type 0} (pages : List (List (K × Option V))) (i k j : ℕ) → i < length pages → 128 + k ≡ j → 128 ≤ length (page_at pages i)
    → before (with_page_split i pages) (suc i, k) ≡ before pages (i, j)
before_high [] i k j l e m = absurd (omega arith)
before_high (page ∷ pages) zero k j l e m = ap (λ front. front ++ take k (drop 128 page)) (append_nil (take 128 page)) ∙ take_past page 128 k j e m
before_high (page ∷ pages) (suc i) k j l e m =
    append_assoc page (slots_of (take (suc i) (with_page_split i pages))) (take k (page_at (with_page_split i pages) (suc i)))
    ∙ ap (λ rest. page ++ rest) (before_high pages i k j (omega arith) e m)
    ∙ sym (append_assoc page (slots_of (take i pages)) (take j (page_at pages i)))

from_high : {K V : Type 0} (pages : List (List (K × Option V))) (i k j : ℕ) → i < length pages → 128 + k ≡ j → 128 ≤ length (page_at pages i)
    → from (with_page_split i pages) (suc i, k) ≡ from pages (i, j)
from_high [] i k j l e m = absurd (omega arith)
from_high (page ∷ pages) zero k j l e m = ap (λ page. page ++ slots_of pages) (drop_past page 128 k j e m)
from_high (page ∷ pages) (suc i) k j l e m = from_high pages i k j (omega arith) e m

pub gap_high : {K V : Type 0} (order : K → Ordering) (pages : List (List (K × Option V))) (i k j : ℕ) → i < length pages → length (page_at pages i) ≡ 256 → 128 + k ≡ j → IsGap order pages (i, j)
    → IsGap order (with_page_split i pages) (suc i, k)
gap_high {K} {V} order pages i k j l full e gap = record {
  front = subst (AllByRecursion (λ (slot : K × Option V). order slot.0 ≡ Less)) (sym (before_high pages i k j l e (omega arith))) gap.front;
  back = subst (AllByRecursion (λ (slot : K × Option V). order slot.0 ≡ Greater)) (sym (from_high pages i k j l e (omega arith))) gap.back;
  page_there = omega (arith, split_length pages i l);
  on_page = rw (page_high pages i l) (omega (arith, length-drop 128 (page_at pages i), gap.on_page));
}

-- ---- the same for the next number

pub length_high : {K V : Type 0} (pages : List (List (K × Option V))) (i n : ℕ) → i < length pages → n ≡ suc i → length (page_at pages i) ≤ 256 → length (page_at (with_page_split i pages) n) < 256
length_high pages i n l e m = rw (e, page_high pages i l) (omega (arith, length-drop 128 (page_at pages i)))

pub gap_after_half : {K V : Type 0} (order : K → Ordering) (pages : List (List (K × Option V))) (i n k j : ℕ) → i < length pages → length (page_at pages i) ≡ 256 → n ≡ suc i → 128 + k ≡ j
    → IsGap order pages (i, j) → IsGap order (with_page_split i pages) (n, k)
gap_after_half order pages i n k j l full s e gap = rw s (gap_high order pages i k j l full e gap)

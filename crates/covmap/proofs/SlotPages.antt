-- The slots before a place and from it on, and the filled slots of joined lists and of pages.
use Rattle.std.proofs.Common.{◌≡◌, ℕ, zero, suc, Option, List, [], ◌∷◌, ◌++◌, length, take, drop, refl, sym, ap, ◌∙◌, append_assoc, arith}
use Rattle.std.specs.Prelude.{flat_map, None, Some}
use Rattle.covmap.specs.Slots.{slots_of, page_at, before, from, filled}

take_drop : {X : Type 0} (xs : List X) (i : ℕ) → take i xs ++ drop i xs ≡ xs
take_drop xs zero = refl
take_drop [] (suc i) = refl
take_drop (x ∷ xs) (suc i) = ap (λ rest. x ∷ rest) (take_drop xs i)

whole_none : {K V : Type 0} (index : ℕ) → slots_of {K = K} {V = V} [] ≡ before [] (0, index) ++ from [] (0, index)
whole_none zero = refl
whole_none (suc index) = refl

-- the slots before a place, and those from it on, are all slots
pub whole : {K V : Type 0} (pages : List (List (K × Option V))) (page index : ℕ) → slots_of pages ≡ before pages (page, index) ++ from pages (page, index)
whole [] zero index = whole_none index
whole [] (suc page) index = whole_none index
whole (first ∷ pages) zero index = rw (← append_assoc, take_drop first index) refl
whole (first ∷ pages) (suc page) index =
    ap (λ rest. first ++ rest) (whole pages page index)
    ∙ sym (append_assoc first (before pages (page, index)) (from pages (page, index)))
    ∙ ap (λ front. front ++ from pages (page, index)) (sym (append_assoc first (slots_of (take page pages)) (take index (page_at pages page))))

-- the filled slots of two joined lists
pub filled_append : {K V : Type 0} (front back : List (K × Option V)) → filled (front ++ back) ≡ filled front ++ filled back
filled_append [] back = refl
filled_append ((key, None) ∷ front) back = filled_append front back
filled_append ((key, Some value) ∷ front) back = ap (λ rest. (key, value) ∷ rest) (filled_append front back)

-- when nothing is left of a page, the next page takes its place, and the filled slots that are left stay the same
pub next_page : {K V P : Type 0} (items : P → List (K × Option V)) (page text : List (K × Option V)) (p : P) (ps pages : List P) → length page ≡ 0 → pages ≡ p ∷ ps → text ≡ items p
    → filled text ++ filled (flat_map items ps) ≡ filled page ++ filled (flat_map items pages)
next_page items [] text p ps pages z e t =
    ap (λ text. filled text ++ filled (flat_map items ps)) t ∙ sym (filled_append (items p) (flat_map items ps)) ∙ ap (λ pages. filled (flat_map items pages)) (sym e)
next_page items (slot ∷ page) text p ps pages z e t = absurd (omega arith)

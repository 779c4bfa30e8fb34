-- How many rows sections have, and sums that stop at the largest number of 128 bits.
use Rattle.std.proofs.Common.{◌≡◌, ℕ, ◌+◌, nat_lt, List, [], ◌∷◌, length, zero, suc, refl, sym, ◌∙◌, arith}
use Rattle.std.specs.List.{flat_map}
use Rattle.std.proofs.lemmas.Bool.{lt-ltb}
use Rattle.std.proofs.lemmas.List.{length-append, length-map}
use Rattle.std.proofs.lemmas.List.Sums.{sum_by-cons}
use Rattle.covdata.specs.Row.{ItemData, SectData, Row, rows_of_sect, items_in}
use Rattle.covtable.specs.Value.{bounded}

-- ---- as many rows as items

pub length-rows_of_sects : (sects : List SectData) → length (flat_map rows_of_sect sects) ≡ items_in sects
length-rows_of_sects [] = refl
length-rows_of_sects (s ∷ sects) =
    let size : items_in (s ∷ sects) ≡ length s.items + items_in sects = sum_by-cons (λ (t : SectData). length t.items) s sects in
    omega (arith, length-append (rows_of_sect s) (flat_map rows_of_sect sects), length-map {B = Row} s.items (λ (i : ItemData). record { test = s.test; file = s.file; item = i }), length-rows_of_sects sects)

-- ---- sums that stop

-- a number may be bounded before more is added, or only at the end: the bounded sum is the same
pub bounded_sum : (n more : ℕ) → bounded (n + more) ≡ bounded (bounded n + more)
bounded_sum n more = omega arith

-- a bounded number is above 0 exactly if the number is
pub bounded_above : (n : ℕ) → nat_lt 0 (bounded n) ≡ nat_lt 0 n
bounded_above zero = refl
bounded_above (suc n) = lt-ltb 0 (bounded (suc n)) (omega arith) ∙ sym (lt-ltb 0 (suc n) (omega arith))

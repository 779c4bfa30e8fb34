-- The first line is cut at the first byte that ends a line.
use Rattle.std.proofs.Common.{◌≡◌, ℕ, zero, suc, ◌<◌, ◌≤◌, Bool, true, false, List, [], ◌∷◌, length, get_or, take, None, Some, refl, ◌∙◌, ap, arith}
use Rattle.std.proofs.lemmas.List.{take_all}
use Rattle.memchr.specs.Find.{IsFirstByte, is_byte2}
use Rattle.covcombine.specs.Strangers.{first_line}

not_true : (b : Bool) → (b ≡ true → ⊥) → b ≡ false
not_true true never = absurd (never refl)
not_true false never = refl

-- the bytes before the first place whose byte ends a line
front_of : (xs : List ℕ) (k : ℕ) → k ≤ length xs → ((j : ℕ) → j < k → is_byte2 10 13 (get_or xs j 0) ≡ true → ⊥)
    → (k < length xs → is_byte2 10 13 (get_or xs k 0) ≡ true) → first_line xs ≡ take k xs
front_of [] zero few none here = refl
front_of [] (suc k) few none here = refl
front_of (b ∷ bs) zero few none here = rw (here (omega arith)) refl
front_of (b ∷ bs) (suc k) few none here =
    rw (not_true (is_byte2 10 13 b) (none 0 (omega arith)))
    (ap (λ (ys : List ℕ). b ∷ ys) (front_of bs k (omega arith) (λ j h. none (suc j) (omega arith)) (λ h. here (omega arith))))

pub front_some : (xs : List ℕ) (k : ℕ) → IsFirstByte (is_byte2 10 13) xs (Some k) → first_line xs ≡ take k xs
front_some xs k h = let at : k < length xs = h.0.high in front_of xs k (omega arith) (λ j l. h.0.before j (omega arith) l) (λ l. h.1)

pub front_none : (xs : List ℕ) → IsFirstByte (is_byte2 10 13) xs None → first_line xs ≡ xs
front_none xs h =
    front_of xs (length xs) (omega arith) (λ j l. h j (omega arith) (omega arith)) (λ l. absurd (omega arith)) ∙ take_all (length xs) xs (omega arith)

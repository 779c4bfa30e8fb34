-- Numbers that are shortened to their first two digits.
use Rattle.std.proofs.Common.{◌≡◌, ℕ, ◌-◌, ◌≤◌, ◌<◌, List, [], ◌∷◌, ◌++◌, length, get_or, refl, sym, ap, ◌∙◌, append_assoc, arith}
use Rattle.std.specs.Prelude.{decimal}
use Rattle.covhtml.specs.Rows.{shortened}

-- the first two digits, as they are printed
abbrev pub front_of : List ℕ → List ℕ
front_of digits = get_or digits 0 0 ∷ 46 ∷ get_or digits 1 0 ∷ 101 ∷ []

shortened_is : (digits : List ℕ) → 2 ≤ length digits → shortened digits ≡ front_of digits ++ decimal (length digits - 1)
shortened_is [] many = absurd (omega (arith, many))
shortened_is (a ∷ []) many = absurd (omega (arith, many))
shortened_is (a ∷ b ∷ digits) many =
    let places : length (b ∷ digits) ≡ length (a ∷ b ∷ digits) - 1 = omega arith in
    ap (λ (n : ℕ). a ∷ 46 ∷ b ∷ 101 ∷ decimal n) places

pub shortened_put : (digits t t1 t2 : List ℕ) → 2 ≤ length digits → t1 ≡ t ++ front_of digits → t2 ≡ t1 ++ decimal (length digits - 1) → t2 ≡ t ++ shortened digits
shortened_put digits t t1 t2 many first second =
    second
    ∙ ap (λ (x : List ℕ). x ++ decimal (length digits - 1)) first
    ∙ append_assoc t (front_of digits) (decimal (length digits - 1))
    ∙ ap (λ (x : List ℕ). t ++ x) (sym (shortened_is digits many))

pub shortened_few : (digits : List ℕ) → length digits < 2 → digits ≡ shortened digits
shortened_few [] few = refl
shortened_few (a ∷ []) few = refl
shortened_few (a ∷ b ∷ digits) few = absurd (omega (arith, few))

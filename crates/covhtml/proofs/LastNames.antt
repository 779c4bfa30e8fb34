-- The name after the last slash of a path, byte by byte.
use Rattle.std.proofs.Common.{◌≡◌, ℕ, true, false, List, [], ◌∷◌, length, refl, ap, ◌∙◌, arith}
use Rattle.covhtml.specs.IndexPage.{begins_name, name_in}

pub slash_passed : (b : ℕ) (name rest after : List ℕ) → rest ≡ b ∷ after → begins_name b after ≡ true → name_in name rest ≡ name_in after after
slash_passed b name rest after next begins =
    let here : name_in name (b ∷ after) ≡ name_in after after = rw begins refl in
    ap (name_in name) next ∙ here

pub byte_passed : (b : ℕ) (name rest after : List ℕ) → rest ≡ b ∷ after → begins_name b after ≡ false → name_in name rest ≡ name_in name after
byte_passed b name rest after next other =
    let here : name_in name (b ∷ after) ≡ name_in name after = rw other refl in
    ap (name_in name) next ∙ here

pub name_ends : (name rest : List ℕ) → length rest ≡ 0 → name_in name rest ≡ name
name_ends name [] none = refl
name_ends name (b ∷ rest) none = absurd (omega (arith, none))

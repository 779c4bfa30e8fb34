-- If a list has copies of some elements up to a place, and a copy of the element at this place is appended, it has copies of the
-- elements up to the next place.
use Rattle.std.proofs.Common.{◌≡◌, ℕ, ◌+◌, ◌<◌, List, [], ◌∷◌, ◌++◌, length, get_or, take, map, sym, ap, ◌∙◌}
use Rattle.std.proofs.lemmas.List.{take_more, map-append, append_assoc}

pub appended_more : {X Y : Type 0} (f : X → Y) (xs : List X) (i : ℕ) (default : X) → i < length xs
    → (first before after : List Y) (y : Y) → before ≡ first ++ map f (take i xs) → after ≡ before ++ y ∷ []
    → y ≡ f (get_or xs i default) → after ≡ first ++ map f (take (i + 1) xs)
appended_more {X} {Y} f xs i default within first before after y so_far pushed is =
    let mapped : map f (take (i + 1) xs) ≡ map f (take i xs) ++ f (get_or xs i default) ∷ []
    = ap (map f) (take_more xs i default within) ∙ map-append f (take i xs) (get_or xs i default ∷ []) in
    pushed ∙ ap (λ (ys : List Y). ys ++ y ∷ []) so_far ∙ append_assoc first (map f (take i xs)) (y ∷ [])
    ∙ ap (λ (z : Y). first ++ (map f (take i xs) ++ z ∷ [])) is ∙ ap (λ (ys : List Y). first ++ ys) (sym mapped)

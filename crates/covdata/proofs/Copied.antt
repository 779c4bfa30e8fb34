-- A list that is copied element by element, as plain data. If the copy has the elements up to a place, and the element at this
-- place is appended, the copy has the elements up to the next place.
use Rattle.std.proofs.Common.{◌≡◌, ℕ, ◌+◌, ◌<◌, List, [], ◌∷◌, ◌++◌, length, get_or, take, map, sym, ap, ◌∙◌}
use Rattle.std.proofs.lemmas.List.{take_more, map-append}

pub copied_more : {X Y : Type 0} (f : X → Y) (xs : List X) (i : ℕ) (x : X) → i < length xs → x ≡ get_or xs i x → (copied new : List Y) → copied ≡ map f (take i xs) → new ≡ copied ++ f x ∷ [] → new ≡ map f (take (i + 1) xs)
copied_more {X} {Y} f xs i x within is copied new so_far pushed =
    let last : take (i + 1) xs ≡ take i xs ++ x ∷ [] = take_more xs i x within ∙ ap (λ (y : X). take i xs ++ y ∷ []) (sym is) in
    let mapped : map f (take (i + 1) xs) ≡ map f (take i xs) ++ f x ∷ [] = ap (map f) last ∙ map-append f (take i xs) (x ∷ []) in
    pushed ∙ ap (λ (ys : List Y). ys ++ f x ∷ []) so_far ∙ sym mapped

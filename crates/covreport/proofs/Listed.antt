-- A list that is made by appending one after another.
use Rattle.std.proofs.Common.{◌≡◌, List, [], ◌∷◌, ◌++◌, map, sym, ap, ◌∙◌, append_assoc}
use Rattle.std.proofs.lemmas.List.{map-append}

-- the next of what is left is appended
pub one_more : {X Y : Type 0} (view : X → Y) (list new : List X) (next : X) (left rest whole : List Y)
    → map view list ++ left ≡ whole → left ≡ view next ∷ rest → new ≡ list ++ next ∷ [] → map view new ++ rest ≡ whole
one_more {X} {Y} view list new next left rest whole so_far first put =
    ap (λ (xs : List X). map view xs ++ rest) put
    ∙ ap (λ (ys : List Y). ys ++ rest) (map-append view list (next ∷ []))
    ∙ append_assoc (map view list) (view next ∷ []) rest
    ∙ ap (λ (ys : List Y). map view list ++ ys) (sym first)
    ∙ so_far

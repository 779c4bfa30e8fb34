-- Two lists that are compared element by element, from the first on. Elements are alike if a function gives the same of both.
use Rattle.std.proofs.Common.{◌≡◌, ℕ, ◌+◌, ◌<◌, List, [], ◌∷◌, ◌++◌, length, get_or, take, map, sym, refl, ap, ◌∙◌}
use Rattle.std.proofs.lemmas.List.{get_or-map}
use Rattle.covdata.proofs.Copied.{copied_more}

-- if the lists are alike up to a place, and at this place too, they are alike up to the next place
pub alike_more : {X Y : Type 0} (f : X → Y) (xs ys : List X) (i : ℕ) (x y : X) → i < length xs → x ≡ get_or xs i x → i < length ys → y ≡ get_or ys i y
    → map f (take i xs) ≡ map f (take i ys) → f x ≡ f y → map f (take (i + 1) xs) ≡ map f (take (i + 1) ys)
alike_more {X} {Y} f xs ys i x y in_xs is_x in_ys is_y so_far same =
    sym (copied_more f xs i x in_xs is_x (map f (take i xs)) (map f (take i xs) ++ f x ∷ []) refl refl)
    ∙ ap (λ (zs : List Y). zs ++ f x ∷ []) so_far ∙ ap (λ (z : Y). map f (take i ys) ++ z ∷ []) same
    ∙ copied_more f ys i y in_ys is_y (map f (take i ys)) (map f (take i ys) ++ f y ∷ []) refl refl

-- lists that are alike as a whole are alike at each place
pub alike_at : {X Y : Type 0} (f : X → Y) (xs ys : List X) (i : ℕ) (x y : X) → i < length xs → x ≡ get_or xs i x → i < length ys → y ≡ get_or ys i y → map f xs ≡ map f ys → f x ≡ f y
alike_at {X} {Y} f xs ys i x y in_xs is_x in_ys is_y same =
    ap f is_x ∙ sym (get_or-map f xs i x (f x) in_xs) ∙ ap (λ (zs : List Y). get_or zs i (f x)) same
    ∙ get_or-map f ys i y (f x) in_ys ∙ sym (ap f is_y)

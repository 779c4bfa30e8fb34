-- The length of a list as a sum.
use Rattle.covstore.proofs.Words.{◌≡◌, List, [], ◌∷◌, length, refl, arith, sum_by, sum_by-cons}

-- a sum of 1 for each element is the length of the list
pub one_each : {X : Type 0} (xs : List X) → sum_by (λ (x : X). 1) xs ≡ length xs
one_each [] = refl
one_each {X} (x ∷ xs) = omega (arith, sum_by-cons (λ (x : X). 1) x xs, one_each xs)

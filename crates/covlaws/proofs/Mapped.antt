-- Lists of mapped elements, and lists with an element.
use Rattle.std.proofs.Common.{◌<◌, List, [], ◌∷◌, length, map, arith}
use Rattle.std.specs.List.{AllByRecursion}
use Rattle.covtable.proofs.Members.{In}

pub All-mapped : {X Y : Type 0} (P : Y → Type 0) (f : X → Y) (xs : List X) → AllByRecursion (λ x. P (f x)) xs → AllByRecursion P (map f xs)
All-mapped P f [] all = tt
All-mapped P f (x ∷ xs) all = (all.0, All-mapped P f xs all.1)

-- a list with an element isn't empty
pub In-some : {X : Type 0} (xs : List X) (x : X) → In x xs → 0 < length xs
In-some [] x i = absurd i
In-some (y ∷ ys) x i = omega arith

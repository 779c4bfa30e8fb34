-- What is changed in the items of an open section.
use Rattle.std.specs.Prelude.{ℕ, zero, suc, ◌+◌, ◌==◌, Bool, false, if◌then◌else◌, List, [], ◌∷◌}
use Rattle.covdata.specs.Row.{ItemData, with_start}

-- these items, of which the one at this place got this start line
abbrev pub start_set : ℕ → ℕ → List ItemData → List ItemData
start_set at line [] = []
start_set zero line (item ∷ items) = with_start line item ∷ items
start_set (suc at) line (item ∷ items) = item ∷ start_set at line items

-- the elements, but for those at these places. The places ascend, and `at` is the place of the first element
abbrev pub left : {X : Type 0} → ℕ → List ℕ → List X → List X
left at places [] = []
left at [] (x ∷ xs) = x ∷ xs
left at (place ∷ places) (x ∷ xs) = if place == at then left (at + 1) places xs else x ∷ left (at + 1) (place ∷ places) xs

-- this is the first of the places
abbrev pub starts_with : ℕ → List ℕ → Bool
starts_with at [] = false
starts_with at (place ∷ places) = place == at

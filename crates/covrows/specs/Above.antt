-- What is left of a list in ascending order, above the last element that was given.
use Rattle.std.specs.Prelude.{◌≡◌, Bool, true, ◌&&◌, List, [], ◌∷◌, Option, Some, None, MatchOption, filter, if◌then◌else◌}
use Rattle.std.specs.declared.cmp.Ordering.{Ordering}
use Rattle.std.specs.Ordering.{is_lt}
use Rattle.covtable.specs.Ascending.{ascending}

-- the element is above the last one, if there is a last one
abbrev pub is_above : {X : Type 0} → (X → X → Ordering) → Option X → X → Bool
is_above cmp None x = true
is_above cmp (Some last) x = is_lt (cmp last x)

-- the elements of a list above the last one, each once, ascending
abbrev pub left_above : {X : Type 0} → (X → X → Ordering) → Option X → List X → List X
left_above cmp last xs = filter (is_above cmp last) (ascending cmp xs)

-- the first element above the last one, or `None` if there is none
abbrev pub IsNextAbove : {X : Type 0} → (X → X → Ordering) → Option X → List X → Option X → Type 0
IsNextAbove cmp last xs next =
    MatchOption next (left_above cmp last xs ≡ []) (λ x. left_above cmp last xs ≡ x ∷ left_above cmp (Some x) xs)

-- the element is below the least one, if there is a least one
abbrev pub is_below : {X : Type 0} → (X → X → Ordering) → X → Option X → Bool
is_below cmp x None = true
is_below cmp x (Some least) = is_lt (cmp x least)

-- `next` if it is above `last` and below `least`, else `least`
abbrev pub lesser : {X : Type 0} → (X → X → Ordering) → (last least : Option X) → X → Option X
lesser cmp last least next = if is_above cmp last next && is_below cmp next least then Some next else least

-- the least of `least` and those elements of the list that are above `last`
abbrev pub least_of : {X : Type 0} → (X → X → Ordering) → (last least : Option X) → List X → Option X
least_of cmp last least [] = least
least_of cmp last least (x ∷ xs) = least_of cmp last (lesser cmp last least x) xs

-- Pairs of a key and a value, ascending by the keys: the value of a key, and the pairs after a key gets a value.
use Rattle.std.specs.Prelude.{◌≡◌, Option, List, [], ◌∷◌}
use Rattle.std.specs.declared.cmp.Ordering.{Ordering}
use Rattle.std.specs.declared.cmp.Ordering.TheVariants.{Less}
use Rattle.std.specs.Ordering.{is_eq, match_ordering}
use Rattle.std.specs.List.{AllByRecursion}
use Rattle.std.specs.Map.{lookup}

-- the value of a key, if it has one
abbrev pub value_of : {K V : Type 0} → (K → K → Ordering) → K → List (K × V) → Option V
value_of cmp key pairs = lookup (λ other. is_eq (cmp other key)) pairs

-- the pairs, once the key has this value. If no pair has the key yet, a pair is inserted where its key belongs in the order
abbrev pub put : {K V : Type 0} → (K → K → Ordering) → K → V → List (K × V) → List (K × V)
put cmp key value [] = (key, value) ∷ []
put cmp key value (pair ∷ pairs) = match_ordering (cmp pair.0 key) (pair ∷ put cmp key value pairs) ((key, value) ∷ pairs) ((key, value) ∷ pair ∷ pairs)

-- each key comes before those after it
abbrev pub ArePairs : {K V : Type 0} → (K → K → Ordering) → List (K × V) → Type 0
ArePairs cmp [] = Unit {0}
ArePairs cmp (pair ∷ pairs) = AllByRecursion (λ next. cmp pair.0 next.0 ≡ Less) pairs × ArePairs cmp pairs

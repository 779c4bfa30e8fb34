-- What items give a point after one more item at their end.
use Rattle.covstore.proofs.Words.{◌≡◌, ℕ, ◌+◌, List, [], ◌∷◌, ◌++◌, refl, ap, ◌∙◌, arith, flat_map, sum_by, flat_map-append, sum_by-cons, sum_by-append, ItemData, bounded}
use Rattle.std.proofs.lemmas.List.{append-nil}
use Rattle.covtable.proofs.Bounds.{bounded_sum}

last_added : (added : ItemData → ℕ) (items : List ItemData) (item : ItemData) → sum_by added (items ++ item ∷ []) ≡ sum_by added items + added item
last_added added items item =
    let nothing : sum_by added [] ≡ 0 = refl in
    omega (arith, sum_by-append added items (item ∷ []), sum_by-cons added item [], nothing)

-- the bounded sum, from the one before and the number of the last item
pub sum_last : (added : ItemData → ℕ) (items : List ItemData) (item : ItemData) (count : ℕ) → added item ≡ count → bounded (sum_by added (items ++ item ∷ [])) ≡ bounded (bounded (sum_by added items) + count)
sum_last added items item count own =
    ap bounded (last_added added items item ∙ ap (λ (n : ℕ). sum_by added items + n) own) ∙ bounded_sum (sum_by added items) count

pub sum_first : (added : ItemData → ℕ) (items : List ItemData) (item : ItemData) (count : ℕ) → added item ≡ count → sum_by added items ≡ 0 → bounded (sum_by added (items ++ item ∷ [])) ≡ bounded count
sum_first added items item count own none = let one : sum_by added (items ++ item ∷ []) ≡ count = omega (arith, last_added added items item, own, none) in ap bounded one

pub none_added : (added : ItemData → ℕ) (items : List ItemData) (item : ItemData) → added item ≡ 0 → sum_by added (items ++ item ∷ []) ≡ sum_by added items
none_added added items item none = omega (arith, last_added added items item, none)

pub last_said : {X : Type 0} (said : ItemData → List X) (items : List ItemData) (item : ItemData) → flat_map said (items ++ item ∷ []) ≡ flat_map said items ++ said item
last_said {X} said items item = flat_map-append said items (item ∷ []) ∙ ap (λ (xs : List X). flat_map said items ++ xs) (append-nil (said item))

pub none_said : {X : Type 0} (said : ItemData → List X) (items : List ItemData) (item : ItemData) → said item ≡ [] → flat_map said (items ++ item ∷ []) ≡ flat_map said items
none_said {X} said items item none = last_said said items item ∙ ap (λ (xs : List X). flat_map said items ++ xs) none ∙ append-nil (flat_map said items)

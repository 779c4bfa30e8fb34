-- What `flat_map f` gives of a list whose parts are maps of other lists.
use Rattle.std.proofs.Common.{◌≡◌, Bool, true, false, cond, List, [], ◌∷◌, ◌++◌, map, refl, ap, ◌∙◌}
use Rattle.std.specs.Prelude.{filter}
use Rattle.std.specs.List.{flat_map, AllByRecursion}
use Rattle.std.proofs.lemmas.List.Concat.{flat_map-append}

-- two joined lists give what the first gives, and then what the second gives
pub joined : {Y A : Type 0} (f : Y → List A) (xs ys : List Y) (a b : List A) → flat_map f xs ≡ a → flat_map f ys ≡ b → flat_map f (xs ++ ys) ≡ a ++ b
joined {Y} {A} f xs ys a b x y = flat_map-append f xs ys ∙ ap (λ (l : List A). l ++ flat_map f ys) x ∙ ap (λ (l : List A). a ++ l) y

-- a list of elements that each give nothing gives nothing
pub none_in : {X Y A : Type 0} (f : Y → List A) (g : X → Y) → ((x : X) → f (g x) ≡ []) → (xs : List X) → flat_map f (map g xs) ≡ []
none_in f g none [] = refl
none_in {X} {Y} {A} f g none (x ∷ xs) = ap (λ (l : List A). l ++ flat_map f (map g xs)) (none x) ∙ none_in f g none xs

pub none_among : {X Y A : Type 0} (f : Y → List A) (g : X → Y) (xs : List X) → AllByRecursion (λ x. f (g x) ≡ []) xs → flat_map f (map g xs) ≡ []
none_among f g [] none = refl
none_among {X} {Y} {A} f g (x ∷ xs) none = ap (λ (l : List A). l ++ flat_map f (map g xs)) none.0 ∙ none_among f g xs none.1

-- a list of elements that each give one result gives the list of these results
pub each_among : {X Y A : Type 0} (f : Y → List A) (g : X → Y) (h : X → A) (xs : List X) → AllByRecursion (λ x. f (g x) ≡ h x ∷ []) xs → flat_map f (map g xs) ≡ map h xs
each_among f g h [] one = refl
each_among {X} {Y} {A} f g h (x ∷ xs) one =
    ap (λ (l : List A). l ++ flat_map f (map g xs)) one.0 ∙ ap (λ (l : List A). h x ∷ l) (each_among f g h xs one.1)

pub each_in : {X Y A : Type 0} (f : Y → List A) (g : X → Y) (h : X → A) → ((x : X) → f (g x) ≡ h x ∷ []) → (xs : List X) → flat_map f (map g xs) ≡ map h xs
each_in f g h one [] = refl
each_in {X} {Y} {A} f g h one (x ∷ xs) = ap (λ (l : List A). l ++ flat_map f (map g xs)) (one x) ∙ ap (λ (l : List A). h x ∷ l) (each_in f g h one xs)

-- if each element gives one result, those that pass a test give the results of those that pass
pub kept_in : {X Y A : Type 0} (p : Y → Bool) (f : Y → List A) (g : X → Y) (q : X → Bool) (h : X → A)
    → ((x : X) → p (g x) ≡ q x) → ((x : X) → f (g x) ≡ h x ∷ []) → (xs : List X) → flat_map f (filter p (map g xs)) ≡ map h (filter q xs)
kept_in p f g q h same one [] = refl
kept_in {X} {Y} {A} p f g q h same one (x ∷ xs) =
    ap (λ (b : Bool). flat_map f (cond b (g x ∷ filter p (map g xs)) (filter p (map g xs)))) (same x) ∙ by (kept_in p f g q h same one xs) (q x)
  where
    by : flat_map f (filter p (map g xs)) ≡ map h (filter q xs) → (b : Bool)
        → flat_map f (cond b (g x ∷ filter p (map g xs)) (filter p (map g xs))) ≡ map h (cond b (x ∷ filter q xs) (filter q xs))
    by rest true = ap (λ (l : List A). l ++ flat_map f (filter p (map g xs))) (one x) ∙ ap (λ (l : List A). h x ∷ l) rest
    by rest false = rest

-- if each element gives nothing, those that pass a test give nothing
pub none_kept_in : {X Y A : Type 0} (p : Y → Bool) (f : Y → List A) (g : X → Y) → ((x : X) → f (g x) ≡ []) → (xs : List X) → flat_map f (filter p (map g xs)) ≡ []
none_kept_in p f g none [] = refl
none_kept_in {X} {Y} {A} p f g none (x ∷ xs) = by (none_kept_in p f g none xs) (p (g x))
  where
    by : flat_map f (filter p (map g xs)) ≡ [] → (b : Bool) → flat_map f (cond b (g x ∷ filter p (map g xs)) (filter p (map g xs))) ≡ []
    by rest true = ap (λ (l : List A). l ++ flat_map f (filter p (map g xs))) (none x) ∙ rest
    by rest false = rest

-- no element passes a test that each of them fails
pub dropped_in : {X Y : Type 0} (p : Y → Bool) (g : X → Y) → ((x : X) → p (g x) ≡ false) → (xs : List X) → filter p (map g xs) ≡ []
dropped_in p g none [] = refl
dropped_in {X} {Y} p g none (x ∷ xs) = ap (λ (b : Bool). cond b (g x ∷ filter p (map g xs)) (filter p (map g xs))) (none x) ∙ dropped_in p g none xs

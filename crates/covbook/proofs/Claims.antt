-- Claims one after another: which hold, and which is the first that doesn't.
use Rattle.std.proofs.Common.{◌≡◌, ℕ, suc, ◌+◌, ◌<◌, List, [], ◌∷◌, ◌++◌, Result, Ok, Err, length, get_or, drop, sym, ap, ◌∙◌, inl, inr, add-one, drop-cons}
use Rattle.covbook.specs.declared.gather_fault.GatherFault.{GatherFault}
use Rattle.covbook.specs.Gather.{Claim, AllHold, FirstFails}
use Rattle.covbook.specs.GatherSteps.{Returns}

pub all_join : (xs ys : List {1} Claim) → AllHold xs → AllHold ys → AllHold (xs ++ ys)
all_join [] ys a b = b
all_join (c ∷ xs) ys a b = (a.0, all_join xs ys a.1 b)

pub all_left : (xs ys : List {1} Claim) → AllHold (xs ++ ys) → AllHold xs
all_left [] ys a = tt
all_left (c ∷ xs) ys a = (a.0, all_left xs ys a.1)

pub all_right : (xs ys : List {1} Claim) → AllHold (xs ++ ys) → AllHold ys
all_right [] ys a = a
all_right (c ∷ xs) ys a = all_right xs ys a.1

pub first_left : (xs ys : List {1} Claim) (f : GatherFault) → FirstFails xs f → FirstFails (xs ++ ys) f
first_left [] ys f h = absurd h
first_left (c ∷ xs) ys f (inl h) = inl h
first_left (c ∷ xs) ys f (inr h) = inr (h.0, first_left xs ys f h.1)

pub first_right : (xs ys : List {1} Claim) (f : GatherFault) → AllHold xs → FirstFails ys f → FirstFails (xs ++ ys) f
first_right [] ys f a h = h
first_right (c ∷ xs) ys f a h = inr (a.0, first_right xs ys f a.1 h)

-- claims that all hold have no first fault
pub none_fails : (xs : List {1} Claim) (f : GatherFault) → AllHold xs → FirstFails xs f → ⊥
none_fails [] f a h = h
none_fails (c ∷ xs) f a (inl h) = h.0 a.0
none_fails (c ∷ xs) f a (inr h) = none_fails xs f a.1 h.1

-- claims have at most one first fault
pub one_fails : (xs : List {1} Claim) (f g : GatherFault) → FirstFails xs f → FirstFails xs g → f ≡ g
one_fails [] f g h k = absurd h
one_fails (c ∷ xs) f g (inl h) (inl k) = h.1 ∙ sym k.1
one_fails (c ∷ xs) f g (inl h) (inr k) = absurd (h.0 k.0)
one_fails (c ∷ xs) f g (inr h) (inl k) = absurd (k.0 h.0)
one_fails (c ∷ xs) f g (inr h) (inr k) = one_fails xs f g h.1 k.1

-- the answer for the claims after some that hold is the answer for all
pub tells_after : {T : Type 0} (r : Result T GatherFault) (xs ys : List {1} Claim) → AllHold xs → Returns r ys → Returns r (xs ++ ys)
tells_after (Ok x) xs ys a t = all_join xs ys a t
tells_after (Err f) xs ys a t = first_right xs ys f a t

-- what is left of a list from an index on is the element at this index, and what is left after it
pub rest_at : {X : Type 0} (xs : List X) (i : ℕ) (d x : X) → i < length xs → x ≡ get_or xs i d → drop i xs ≡ x ∷ drop (i + 1) xs
rest_at {X} xs i d x within is =
    drop-cons xs i d within ∙ ap (λ (y : X). y ∷ drop (suc i) xs) (sym is) ∙ ap (λ (n : ℕ). x ∷ drop n xs) (sym (add-one i))

pub rest_is : {X : Type 0} (xs : List X) (i : ℕ) (x : X) → i < length xs → x ≡ get_or xs i x → drop i xs ≡ x ∷ drop (i + 1) xs
rest_is xs i x within is = rest_at xs i x x within is

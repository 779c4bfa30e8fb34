-- A worker takes its inputs one after another.
use Rattle.std.proofs.Common.{◌≡◌, ◌∙◌, ◌⊎◌, inl, inr, ℕ, zero, suc, ◌+◌, ◌<◌, Bool, true, false, IsTrue, if◌then◌else◌, List, [], ◌∷◌, ◌++◌, map, Option, None, Some, slice_get, ap, sym, refl, subst, arith}
use Rattle.std.specs.Prelude.{IsSomeAnd}
use Rattle.std.proofs.Math.Dec.{eqb}
use Rattle.std.proofs.lemmas.Bool.{eq-eqb, ne_eqb, false≢true}
use Rattle.std.proofs.lemmas.Bool.Decides.{eqb_tells}
use Rattle.covdata.specs.Row.{SubmissionData}
use Rattle.covbook.specs.Op.{OpData, SubmitOp, ReceiptData}
use Rattle.covworkers.specs.declared.refused.RefusedInput.{RefusedInput}
use Rattle.covworkers.specs.Collect.{OutcomeData, submitted, refusal, brought, places_of_job, submissions_of, ops_in}
use Rattle.covworkers.specs.Work.{Takes, HasTaken}

abbrev pub Outcome : Type 0 → Type 0
Outcome F = OutcomeData F

-- nothing was read, and nothing is refused
abbrev pub nothing : {F : Type 0} → Outcome F
nothing {F} = record { read = []; fault = None }

-- the function `old` with the value `new` at the number `at`
abbrev pub put : {X : Type 0} → ℕ → X → (ℕ → X) → ℕ → X
put at new old index = if eqb index at then new else old index

pub put_here : {X : Type 0} (at : ℕ) (new : X) (old : ℕ → X) → put at new old at ≡ new
put_here at new old = ap (λ (b : Bool). if b then new else old at) (eq-eqb at at refl)

pub put_apart : {X : Type 0} (at : ℕ) (new : X) (old : ℕ → X) (index : ℕ) → (index ≡ at → ⊥) → put at new old index ≡ old index
put_apart at new old index apart = ap (λ (b : Bool). if b then new else old index) (ne_eqb index at apart)

-- what the first places bring depends only on what is given for these places
pub brought_same : {X : Type 0} (meant : ℕ → Bool) (bring brings : ℕ → List X) (count : ℕ) → ((index : ℕ) → index < count → brings index ≡ bring index)
    → brought meant brings count ≡ brought meant bring count
brought_same meant bring brings zero same = refl
brought_same {X} meant bring brings (suc count) same =
    ap (λ (xs : List X). xs ++ (if meant count then brings count else [])) (brought_same meant bring brings count (λ index less. same index (omega (arith, less))))
    ∙ ap (λ (x : List X). brought meant bring count ++ (if meant count then x else [])) (same count (omega arith))

behind : (count : ℕ) → suc count ≡ count + 1
behind count = omega arith

-- with one more place that is meant, what it brings comes after the rest
pub brought_more : {X : Type 0} (meant : ℕ → Bool) (bring brings : ℕ → List X) (count : ℕ) (here : List X) → ((index : ℕ) → index < count → brings index ≡ bring index)
    → meant count ≡ true → brings count ≡ here → brought meant brings (count + 1) ≡ brought meant bring count ++ here
brought_more {X} meant bring brings count here same own is =
    sym (ap (λ (n : ℕ). brought meant brings n) (behind count))
    ∙ ap (λ (xs : List X). xs ++ (if meant count then brings count else [])) (brought_same meant bring brings count same)
    ∙ ap (λ (b : Bool). brought meant bring count ++ (if b then brings count else [])) own
    ∙ ap (λ (x : List X). brought meant bring count ++ x) is

pub append_nothing : {X : Type 0} (xs : List X) → xs ++ [] ≡ xs
append_nothing [] = refl
append_nothing {X} (x ∷ xs) = ap (λ (rest : List X). x ∷ rest) (append_nothing xs)

-- one more place that isn't meant brings nothing
pub brought_past : {X : Type 0} (meant : ℕ → Bool) (bring : ℕ → List X) (count : ℕ) → meant count ≡ false → brought meant bring (count + 1) ≡ brought meant bring count
brought_past {X} meant bring count apart =
    sym (ap (λ (n : ℕ). brought meant bring n) (behind count))
    ∙ ap (λ (b : Bool). brought meant bring count ++ (if b then bring count else [])) apart ∙ append_nothing (brought meant bring count)

pub map_after : {X Y : Type 0} (f : X → Y) (xs ys : List X) → map f (xs ++ ys) ≡ map f xs ++ map f ys
map_after f [] ys = refl
map_after {X} {Y} f (x ∷ xs) ys = ap (λ (rest : List Y). f x ∷ rest) (map_after f xs ys)

pub none_taken : {X F : Type 0} (Gives : X → Outcome F → Type 0) (inputs : List X) (jobs job : ℕ) (receipts : List ReceiptData) (refused : List (RefusedInput F)) → receipts ≡ [] → refused ≡ []
    → HasTaken Gives inputs jobs job 0 receipts refused
none_taken {X} Gives inputs jobs job receipts refused no_receipts none_refused =
    record { outcome = λ index. nothing; outcomes = λ index less own. absurd (omega (arith, less)); asked = ap (λ (rs : List ReceiptData). ops_in rs) no_receipts; are_refused = none_refused }

is_below : (index count : ℕ) → index < count + 1 → (index ≡ count → ⊥) → index < count
is_below index count less apart = omega (arith, less, apart)

by_place : {X F : Type 0} (Gives : X → Outcome F → Type 0) (inputs : List X) (meant : ℕ → Bool) (count : ℕ) (input : X) (new : Outcome F) (old : ℕ → Outcome F)
    → ((index : ℕ) → index < count → IsTrue (meant index) → IsSomeAnd (slice_get inputs index) (λ input. Gives input (old index)))
    → slice_get inputs count ≡ Some input → Gives input new
    → (index : ℕ) → index < count + 1 → IsTrue (meant index)
    → ((eqb index count ≡ true) × (index ≡ count)) ⊎ ((eqb index count ≡ false) × (index ≡ count → ⊥))
    → IsSomeAnd (slice_get inputs index) (λ input. Gives input (put count new old index))
by_place {X} {F} Gives inputs meant count input new old before is is_outcome index less own (inl (_, same)) =
    subst (λ (i : ℕ). IsSomeAnd (slice_get inputs i) (λ input. Gives input (put count new old i))) (sym same)
    (subst (λ (f : Outcome F). IsSomeAnd (slice_get inputs count) (λ input. Gives input f)) (sym (put_here count new old))
    (subst (λ (found : Option X). IsSomeAnd found (λ input. Gives input new)) (sym is) is_outcome))
by_place {X} {F} Gives inputs meant count input new old before is is_outcome index less own (inr (_, differs)) =
    subst (λ (f : Outcome F). IsSomeAnd (slice_get inputs index) (λ input. Gives input f)) (sym (put_apart count new old index differs))
    (before index (is_below index count less differs) own)

fates_put : {X F : Type 0} (Gives : X → Outcome F → Type 0) (inputs : List X) (meant : ℕ → Bool) (count : ℕ) (input : X) (new : Outcome F) (old : ℕ → Outcome F)
    → ((index : ℕ) → index < count → IsTrue (meant index) → IsSomeAnd (slice_get inputs index) (λ input. Gives input (old index)))
    → slice_get inputs count ≡ Some input → Gives input new
    → (index : ℕ) → index < count + 1 → IsTrue (meant index) → IsSomeAnd (slice_get inputs index) (λ input. Gives input (put count new old index))
fates_put {X} Gives inputs meant count input new old before is is_outcome index less own =
    by_place Gives inputs meant count input new old before is is_outcome index less own (eqb_tells index count)

pub step_taken : {X F : Type 0} (Gives : X → Outcome F → Type 0) (inputs : List X) (jobs job count : ℕ) (receipts after : List ReceiptData) (refused refuses : List (RefusedInput F)) (input : X)
    → HasTaken Gives inputs jobs job count receipts refused → places_of_job jobs job count ≡ true → slice_get inputs count ≡ Some input
    → Takes (Gives input) count (ops_in receipts) (ops_in after) refused refuses → HasTaken Gives inputs jobs job (count + 1) after refuses
step_taken {X} {F} Gives inputs jobs job count receipts after refused refuses input so_far own is takes =
    let meant = places_of_job jobs job in
    let old = so_far.outcome in
    let new = put count takes.outcome old in
    let here : new count ≡ takes.outcome = put_here count takes.outcome old in
    record {
      outcome = new;
      outcomes = fates_put Gives inputs meant count input takes.outcome old so_far.outcomes is takes.is_outcome;
      asked = takes.submits
          ∙ ap (λ (ops : List OpData). ops ++ map SubmitOp (submitted takes.outcome)) so_far.asked
          ∙ sym (map_after SubmitOp (submissions_of meant old count) (submitted takes.outcome))
          ∙ sym (ap (λ (subs : List SubmissionData). map SubmitOp subs) (brought_more meant (λ index. submitted (old index)) (λ index. submitted (new index)) count (submitted takes.outcome)
          (λ index less. ap (λ (f : Outcome F). submitted f) (put_apart count takes.outcome old index (λ same. omega (arith, less, same)))) own (ap (λ (f : Outcome F). submitted f) here)));
      are_refused = takes.tells
          ∙ ap (λ (rs : List (RefusedInput F)). rs ++ refusal count takes.outcome) so_far.are_refused
          ∙ sym (brought_more meant (λ index. refusal index (old index)) (λ index. refusal index (new index)) count (refusal count takes.outcome)
          (λ index less. ap (λ (f : Outcome F). refusal index f) (put_apart count takes.outcome old index (λ same. omega (arith, less, same)))) own (ap (λ (f : Outcome F). refusal count f) here));
    }

fates_past : {X F : Type 0} (Gives : X → Outcome F → Type 0) (inputs : List X) (meant : ℕ → Bool) (count : ℕ) (old : ℕ → Outcome F) → meant count ≡ false
    → ((index : ℕ) → index < count → IsTrue (meant index) → IsSomeAnd (slice_get inputs index) (λ input. Gives input (old index)))
    → (index : ℕ) → index < count + 1 → IsTrue (meant index)
    → ((eqb index count ≡ true) × (index ≡ count)) ⊎ ((eqb index count ≡ false) × (index ≡ count → ⊥))
    → IsSomeAnd (slice_get inputs index) (λ input. Gives input (old index))
fates_past {X} Gives inputs meant count old apart before index less own (inl (_, same)) = absurd (false≢true (sym apart ∙ subst (λ (i : ℕ). meant i ≡ true) same own))
fates_past {X} Gives inputs meant count old apart before index less own (inr (_, differs)) = before index (is_below index count less differs) own

pub step_past : {X F : Type 0} (Gives : X → Outcome F → Type 0) (inputs : List X) (jobs job count : ℕ) (receipts : List ReceiptData) (refused : List (RefusedInput F))
    → HasTaken Gives inputs jobs job count receipts refused → places_of_job jobs job count ≡ false → HasTaken Gives inputs jobs job (count + 1) receipts refused
step_past {X} Gives inputs jobs job count receipts refused so_far apart =
    let meant = places_of_job jobs job in
    let old = so_far.outcome in
    record {
      outcome = old;
      outcomes = λ index less own. fates_past Gives inputs meant count old apart so_far.outcomes index less own (eqb_tells index count);
      asked = so_far.asked ∙ sym (ap (λ (subs : List SubmissionData). map SubmitOp subs) (brought_past meant (λ index. submitted (old index)) count apart));
      are_refused = so_far.are_refused ∙ sym (brought_past meant (λ index. refusal index (old index)) count apart);
    }

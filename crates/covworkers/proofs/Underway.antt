-- A worker's share is taken, one input after another.
use Rattle.std.proofs.Common.{◌≡◌, ◌∙◌, ℕ, zero, suc, ◌+◌, Bool, true, false, if◌then◌else◌, List, [], ◌∷◌, ◌++◌, length, Option, None, Some, slice_get, get_or, ap, sym, refl, subst, arith}
use Rattle.std.proofs.lemmas.List.{append_assoc}
use Rattle.std.proofs.lemmas.Option.{slice_get-get_or, none-some}
use Rattle.covbook.specs.Op.{ReceiptData}
use Rattle.covworkers.specs.declared.refused.RefusedInput.{RefusedInput}
use Rattle.covworkers.specs.declared.shares.Placed.{Placed}
use Rattle.covworkers.specs.Collect.{brought, places_of_job, ops_in}
use Rattle.covworkers.specs.Shares.{placed_at, share_of}
use Rattle.covworkers.specs.Work.{Takes, HasTaken}
use Rattle.covworkers.proofs.Taken.{Outcome, none_taken, step_taken, step_past}

-- what the meant ones among `more` places bring, from a place on
abbrev pub brought_from : {X : Type 0} → (meant : ℕ → Bool) → (bring : ℕ → List X) → (from more : ℕ) → List X
brought_from meant bring from zero = []
brought_from meant bring from (suc more) = (if meant from then bring from else []) ++ brought_from meant bring (from + 1) more

one_later : (from more : ℕ) → from + suc more ≡ from + 1 + more
one_later from more = omega arith

one_behind : (from : ℕ) → from + 1 ≡ suc from
one_behind from = omega arith

none_before : (n : ℕ) → 0 + n ≡ n
none_before n = omega arith

-- what the first places bring, followed by what the places after them bring, is what all of them bring
brought_both : {X : Type 0} (meant : ℕ → Bool) (bring : ℕ → List X) (from more : ℕ) → brought meant bring (from + more) ≡ brought meant bring from ++ brought_from meant bring from more
brought_both {X} meant bring from zero = ap (λ (n : ℕ). brought meant bring n) (none_after from) ∙ sym (append_nothing (brought meant bring from))
  where
    none_after : (from : ℕ) → from + 0 ≡ from
    none_after from = omega arith

    append_nothing : {X : Type 0} (xs : List X) → xs ++ [] ≡ xs
    append_nothing [] = refl
    append_nothing {X} (x ∷ xs) = ap (λ (rest : List X). x ∷ rest) (append_nothing xs)
brought_both {X} meant bring from (suc more) =
    let here : List X = if meant from then bring from else [] in
    ap (λ (n : ℕ). brought meant bring n) (one_later from more)
    ∙ brought_both meant bring (from + 1) more
    ∙ ap (λ (n : ℕ). brought meant bring n ++ brought_from meant bring (from + 1) more) (one_behind from)
    ∙ append_assoc (brought meant bring from) here (brought_from meant bring (from + 1) more)

-- how far a worker is in its share: it has taken its inputs among the first `count` inputs, and `rest` has its inputs among the
-- others
pub record IsUnderway {X F : Type 0} (Gives : X → Outcome F → Type 0) (inputs : List X) (jobs job : ℕ) (rest : List (Placed X)) (receipts : List ReceiptData) (refused : List (RefusedInput F)) : Type 0 where
  pub count : ℕ
  pub more : ℕ
  pub all : count + more ≡ length inputs
  pub left : rest ≡ brought_from (places_of_job jobs job) (λ index. placed_at index (slice_get inputs index)) count more
  pub taken : HasTaken Gives inputs jobs job count receipts refused

pub none_underway : {X F : Type 0} (Gives : X → Outcome F → Type 0) (inputs : List X) (jobs job : ℕ) (share : List (Placed X)) (receipts : List ReceiptData) (refused : List (RefusedInput F))
    → share ≡ share_of inputs jobs job → receipts ≡ [] → refused ≡ [] → IsUnderway Gives inputs jobs job share receipts refused
none_underway {X} Gives inputs jobs job share receipts refused is no_receipts none_refused =
    let meant = places_of_job jobs job in
    let bring : ℕ → List (Placed X) = λ index. placed_at index (slice_get inputs index) in
    record {
      count = 0;
      more = length inputs;
      all = none_before (length inputs);
      left = is ∙ sym (ap (λ (n : ℕ). brought meant bring n) (none_before (length inputs))) ∙ brought_both meant bring 0 (length inputs);
      taken = none_taken Gives inputs jobs job receipts refused no_receipts none_refused;
    }

-- the head and the tail of a list
abbrev head_or : {X : Type 0} → X → List X → X
head_or d [] = d
head_or d (x ∷ xs) = x

abbrev tail_of : {X : Type 0} → List X → List X
tail_of [] = []
tail_of (x ∷ xs) = xs

head_is : {X : Type 0} (x y : X) (xs ys : List X) → x ∷ xs ≡ y ∷ ys → x ≡ y
head_is {X} x y xs ys same = ap (λ (zs : List X). head_or x zs) same

tail_is : {X : Type 0} (x y : X) (xs ys : List X) → x ∷ xs ≡ y ∷ ys → xs ≡ ys
tail_is {X} x y xs ys same = ap (λ (zs : List X). tail_of zs) same

abbrev HasMember : {X : Type 0} → List X → Type 0
HasMember [] = ⊥
HasMember (x ∷ xs) = Unit {0}

no_member : {X : Type 0} (x : X) (xs : List X) → x ∷ xs ≡ [] → ⊥
no_member {X} x xs same = subst (λ (zs : List X). HasMember zs) same tt

-- a place below the number of inputs has an input
is_there : {X : Type 0} (inputs : List X) (count more : ℕ) → count + suc more ≡ length inputs → slice_get inputs count ≡ None → ⊥
is_there [] count more all none = omega (arith, all)
is_there {X} (x ∷ xs) count more all none = none-some (get_or (x ∷ xs) count x) (sym none ∙ slice_get-get_or (x ∷ xs) count x (omega (arith, all)))

-- one place on: the place is the next of the share, or isn't of the job
next_place : {X F : Type 0} (Gives : X → Outcome F → Type 0) (inputs : List X) (jobs job count more : ℕ) (placed : Placed X) (rest : List (Placed X)) (receipts after : List ReceiptData) (refused refuses : List (RefusedInput F))
    → (own : Bool) → places_of_job jobs job count ≡ own → (found : Option X) → slice_get inputs count ≡ found
    → count + suc more ≡ length inputs
    → placed ∷ rest ≡ (if own then placed_at count found else []) ++ brought_from (places_of_job jobs job) (λ index. placed_at index (slice_get inputs index)) (count + 1) more
    → HasTaken Gives inputs jobs job count receipts refused
    → Takes (Gives placed.input) placed.index (ops_in receipts) (ops_in after) refused refuses
    → (HasTaken Gives inputs jobs job (count + 1) receipts refused → placed ∷ rest ≡ brought_from (places_of_job jobs job) (λ index. placed_at index (slice_get inputs index)) (count + 1) more → IsUnderway Gives inputs jobs job rest after refuses)
    → IsUnderway Gives inputs jobs job rest after refuses
next_place Gives inputs jobs job count more placed rest receipts after refused refuses true is_own None none all left taken takes later = absurd (is_there inputs count more all none)
next_place {X} Gives inputs jobs job count more placed rest receipts after refused refuses true is_own (Some input) is all left taken takes later =
    let here : Placed X = record { index = count; input = input } in
    let others : List (Placed X) = brought_from (places_of_job jobs job) (λ index. placed_at index (slice_get inputs index)) (count + 1) more in
    let same : placed ≡ here = head_is placed here rest others left in
    record {
      count = count + 1;
      more = more;
      all = sym (one_later count more) ∙ all;
      left = tail_is placed here rest others left;
      taken = step_taken Gives inputs jobs job count receipts after refused refuses input taken is_own is
          (subst (λ (p : Placed X). Takes (Gives p.input) p.index (ops_in receipts) (ops_in after) refused refuses) same takes);
    }
next_place Gives inputs jobs job count more placed rest receipts after refused refuses false apart found is all left taken takes later =
    later (step_past Gives inputs jobs job count receipts refused taken apart) left

taken_from : {X F : Type 0} (Gives : X → Outcome F → Type 0) (inputs : List X) (jobs job count more : ℕ) (placed : Placed X) (rest : List (Placed X)) (receipts after : List ReceiptData) (refused refuses : List (RefusedInput F))
    → count + more ≡ length inputs
    → placed ∷ rest ≡ brought_from (places_of_job jobs job) (λ index. placed_at index (slice_get inputs index)) count more
    → HasTaken Gives inputs jobs job count receipts refused
    → Takes (Gives placed.input) placed.index (ops_in receipts) (ops_in after) refused refuses
    → IsUnderway Gives inputs jobs job rest after refuses
taken_from Gives inputs jobs job count zero placed rest receipts after refused refuses all left taken takes = absurd (no_member placed rest left)
taken_from Gives inputs jobs job count (suc more) placed rest receipts after refused refuses all left taken takes =
    next_place Gives inputs jobs job count more placed rest receipts after refused refuses (places_of_job jobs job count) refl (slice_get inputs count) refl all left taken takes
    (λ past left_past. taken_from Gives inputs jobs job (count + 1) more placed rest receipts after refused refuses (sym (one_later count more) ∙ all) left_past past takes)

-- the next input of the share is taken
pub one_taken : {X F : Type 0} (Gives : X → Outcome F → Type 0) (inputs : List X) (jobs job : ℕ) (placed : Placed X) (rest : List (Placed X)) (receipts after : List ReceiptData) (refused refuses : List (RefusedInput F))
    → IsUnderway Gives inputs jobs job (placed ∷ rest) receipts refused
    → Takes (Gives placed.input) placed.index (ops_in receipts) (ops_in after) refused refuses
    → IsUnderway Gives inputs jobs job rest after refuses
one_taken Gives inputs jobs job placed rest receipts after refused refuses so_far takes =
    taken_from Gives inputs jobs job so_far.count so_far.more placed rest receipts after refused refuses so_far.all so_far.left so_far.taken takes

-- the next input of a share is at a place of the job, and the job has taken its inputs before that place
pub record IsNext {X F : Type 0} (Gives : X → Outcome F → Type 0) (inputs : List X) (jobs job : ℕ) (placed : Placed X) (receipts : List ReceiptData) (refused : List (RefusedInput F)) : Type 0 where
  pub own : places_of_job jobs job placed.index ≡ true
  pub is : slice_get inputs placed.index ≡ Some placed.input
  pub taken : HasTaken Gives inputs jobs job placed.index receipts refused

-- one place on: the place is that of the next input, or isn't of the job
next_at : {X F : Type 0} (Gives : X → Outcome F → Type 0) (inputs : List X) (jobs job count more : ℕ) (placed : Placed X) (rest : List (Placed X)) (receipts : List ReceiptData) (refused : List (RefusedInput F))
    → (own : Bool) → places_of_job jobs job count ≡ own → (found : Option X) → slice_get inputs count ≡ found
    → count + suc more ≡ length inputs
    → placed ∷ rest ≡ (if own then placed_at count found else []) ++ brought_from (places_of_job jobs job) (λ index. placed_at index (slice_get inputs index)) (count + 1) more
    → HasTaken Gives inputs jobs job count receipts refused
    → (HasTaken Gives inputs jobs job (count + 1) receipts refused → placed ∷ rest ≡ brought_from (places_of_job jobs job) (λ index. placed_at index (slice_get inputs index)) (count + 1) more → IsNext Gives inputs jobs job placed receipts refused)
    → IsNext Gives inputs jobs job placed receipts refused
next_at Gives inputs jobs job count more placed rest receipts refused true is_own None none all left taken later = absurd (is_there inputs count more all none)
next_at {X} Gives inputs jobs job count more placed rest receipts refused true is_own (Some input) is all left taken later =
    let here : Placed X = record { index = count; input = input } in
    let same : placed ≡ here = head_is placed here rest (brought_from (places_of_job jobs job) (λ index. placed_at index (slice_get inputs index)) (count + 1) more) left in
    let next : IsNext Gives inputs jobs job here receipts refused = record { own = is_own; is = is; taken = taken } in
    subst (λ (p : Placed X). IsNext Gives inputs jobs job p receipts refused) (sym same) next
next_at Gives inputs jobs job count more placed rest receipts refused false apart found is all left taken later =
    later (step_past Gives inputs jobs job count receipts refused taken apart) left

next_from : {X F : Type 0} (Gives : X → Outcome F → Type 0) (inputs : List X) (jobs job count more : ℕ) (placed : Placed X) (rest : List (Placed X)) (receipts : List ReceiptData) (refused : List (RefusedInput F))
    → count + more ≡ length inputs
    → placed ∷ rest ≡ brought_from (places_of_job jobs job) (λ index. placed_at index (slice_get inputs index)) count more
    → HasTaken Gives inputs jobs job count receipts refused → IsNext Gives inputs jobs job placed receipts refused
next_from Gives inputs jobs job count zero placed rest receipts refused all left taken = absurd (no_member placed rest left)
next_from Gives inputs jobs job count (suc more) placed rest receipts refused all left taken =
    next_at Gives inputs jobs job count more placed rest receipts refused (places_of_job jobs job count) refl (slice_get inputs count) refl all left taken
    (λ past left_past. next_from Gives inputs jobs job (count + 1) more placed rest receipts refused (sym (one_later count more) ∙ all) left_past past)

pub next_of : {X F : Type 0} (Gives : X → Outcome F → Type 0) (inputs : List X) (jobs job : ℕ) (placed : Placed X) (rest : List (Placed X)) (receipts : List ReceiptData) (refused : List (RefusedInput F))
    → IsUnderway Gives inputs jobs job (placed ∷ rest) receipts refused → IsNext Gives inputs jobs job placed receipts refused
next_of Gives inputs jobs job placed rest receipts refused so_far =
    next_from Gives inputs jobs job so_far.count so_far.more placed rest receipts refused so_far.all so_far.left so_far.taken

-- the places that are left aren't of the job
past_place : {X F : Type 0} (Gives : X → Outcome F → Type 0) (inputs : List X) (jobs job count more : ℕ) (receipts : List ReceiptData) (refused : List (RefusedInput F))
    → (own : Bool) → places_of_job jobs job count ≡ own → (found : Option X) → slice_get inputs count ≡ found
    → count + suc more ≡ length inputs
    → [] ≡ (if own then placed_at count found else []) ++ brought_from (places_of_job jobs job) (λ index. placed_at index (slice_get inputs index)) (count + 1) more
    → HasTaken Gives inputs jobs job count receipts refused
    → (HasTaken Gives inputs jobs job (count + 1) receipts refused → [] ≡ brought_from (places_of_job jobs job) (λ index. placed_at index (slice_get inputs index)) (count + 1) more → HasTaken Gives inputs jobs job (length inputs) receipts refused)
    → HasTaken Gives inputs jobs job (length inputs) receipts refused
past_place Gives inputs jobs job count more receipts refused true is_own None none all left taken later = absurd (is_there inputs count more all none)
past_place {X} Gives inputs jobs job count more receipts refused true is_own (Some input) is all left taken later =
    absurd (no_member (record { index = count; input = input }) (brought_from (places_of_job jobs job) (λ index. placed_at index (slice_get inputs index)) (count + 1) more) (sym left))
past_place Gives inputs jobs job count more receipts refused false apart found is all left taken later =
    later (step_past Gives inputs jobs job count receipts refused taken apart) left

past_from : {X F : Type 0} (Gives : X → Outcome F → Type 0) (inputs : List X) (jobs job count more : ℕ) (receipts : List ReceiptData) (refused : List (RefusedInput F))
    → count + more ≡ length inputs
    → [] ≡ brought_from (places_of_job jobs job) (λ index. placed_at index (slice_get inputs index)) count more
    → HasTaken Gives inputs jobs job count receipts refused
    → HasTaken Gives inputs jobs job (length inputs) receipts refused
past_from Gives inputs jobs job count zero receipts refused all left taken =
    subst (λ (n : ℕ). HasTaken Gives inputs jobs job n receipts refused) (none_after count ∙ all) taken
  where
    none_after : (count : ℕ) → count ≡ count + 0
    none_after count = omega arith
past_from Gives inputs jobs job count (suc more) receipts refused all left taken =
    past_place Gives inputs jobs job count more receipts refused (places_of_job jobs job count) refl (slice_get inputs count) refl all left taken
    (λ past left_past. past_from Gives inputs jobs job (count + 1) more receipts refused (sym (one_later count more) ∙ all) left_past past)

-- nothing of the share is left, so all of it is taken
pub all_taken : {X F : Type 0} (Gives : X → Outcome F → Type 0) (inputs : List X) (jobs job : ℕ) (rest : List (Placed X)) (receipts : List ReceiptData) (refused : List (RefusedInput F))
    → IsUnderway Gives inputs jobs job rest receipts refused → rest ≡ [] → HasTaken Gives inputs jobs job (length inputs) receipts refused
all_taken Gives inputs jobs job rest receipts refused so_far none =
    past_from Gives inputs jobs job so_far.count so_far.more receipts refused so_far.all (sym none ∙ so_far.left) so_far.taken

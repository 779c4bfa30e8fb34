-- The functions of a section in the order of their start lines.
use Rattle.std.proofs.Common.{◌≡◌, ℕ, ◌+◌, ◌<◌, ◌≤◌, List, [], ◌∷◌, ◌++◌, length, map, refl, sym, ap, ◌∙◌, append_assoc, subst, arith}
use Rattle.std.specs.Cmp.{IsTotalOrder}
use Rattle.std.specs.Cmp.Lexicographic.{slice_cmp}
use Rattle.std.specs.declared.cmp.Ordering.{Ordering}
use Rattle.std.specs.declared.cmp.Ordering.TheVariants.{Less, Equal, Greater}
use Rattle.std.specs.List.Sorted.{IsSorted, IsPermutation}
use Rattle.std.specs.Ordering.{nat_cmp, ordering_then}
use Rattle.std.proofs.lemmas.Cmp.{nat_cmp_total, nat_list_cmp_total, on_total, then_total}
use Rattle.std.proofs.lemmas.List.{append-nil, get_or-map, length-append, length-map, map_push}
use Rattle.std.proofs.lemmas.List.Sorted.{IsPermutation-map, length_permutation, sum_by-IsPermutation}
use Rattle.std.proofs.lemmas.Map.Lookups.{CmpEqualImpliesEq, exact_unsigned, exact_bytes}
use Rattle.covreport.specs.Report.{by_start, function_cmp, functions_hit}
use Rattle.covreport.proofs.Sorting.{moved_sorted, rises_sorted, sorted_from_rises, sorted_is}
use Rattle.covtable.specs.Content.{FunctionValueData}

-- ---- the order distinguishes all functions

function_cmp_total : IsTotalOrder function_cmp
function_cmp_total =
    then_total (on_total (λ (f : FunctionValueData). f.line) nat_cmp_total)
    (then_total (on_total (λ (f : FunctionValueData). f.name) nat_list_cmp_total) (on_total (λ (f : FunctionValueData). f.count) nat_cmp_total))

both_equal : (o p : Ordering) → ordering_then o p ≡ Equal → (o ≡ Equal) × (p ≡ Equal)
both_equal Less p e = absurd cc
both_equal Equal p e = (refl, e)
both_equal Greater p e = absurd cc

function_at : ℕ → List ℕ → ℕ → FunctionValueData
function_at line name count = record { line = line; name = name; count = count }

function_cmp_exact : CmpEqualImpliesEq function_cmp
unfolding function_at
function_cmp_exact a b e =
    let p = both_equal (nat_cmp a.line b.line) (ordering_then (slice_cmp nat_cmp a.name b.name) (nat_cmp a.count b.count)) e in
    let q = both_equal (slice_cmp nat_cmp a.name b.name) (nat_cmp a.count b.count) p.1 in
    let line : a.line ≡ b.line = exact_unsigned a.line b.line p.0 in
    let name : a.name ≡ b.name = exact_bytes a.name b.name q.0 in
    let count : a.count ≡ b.count = exact_unsigned a.count b.count q.1 in
    ap (λ (line : ℕ). function_at line a.name a.count) line ∙ ap (λ (name : List ℕ). function_at b.line name a.count) name ∙ ap (λ (count : ℕ). function_at b.line b.name count) count

-- ---- what the functions in this order are

pub by_start_sorted : (functions : List FunctionValueData) → IsSorted function_cmp (by_start functions)
by_start_sorted functions = sorted_from_rises function_cmp function_cmp_total (by_start functions) (rises_sorted function_cmp function_cmp_total functions)

pub by_start_moved : (functions : List FunctionValueData) → IsPermutation (by_start functions) functions
by_start_moved functions = moved_sorted function_cmp function_cmp_total functions

pub length-by_start : (functions : List FunctionValueData) → length (by_start functions) ≡ length functions
length-by_start functions = sym (length_permutation (by_start functions) functions (by_start_moved functions))

pub hit-by_start : (functions : List FunctionValueData) → functions_hit (by_start functions) ≡ functions_hit functions
hit-by_start functions = sym (sum_by-IsPermutation _ (by_start functions) functions (by_start_moved functions))

sorted_map : {X Y : Type 0} (cmp : Y → Y → Ordering) (f : X → Y) (xs : List X) → IsSorted (λ a b. cmp (f a) (f b)) xs → IsSorted cmp (map f xs)
sorted_map cmp f [] up = λ k d low high. absurd (omega (arith, high))
sorted_map {X} cmp f (x ∷ xs) up = λ k d low high.
    let short : k + 1 < length (x ∷ xs) = omega (arith, high, length-map (x ∷ xs) f) in
    rw (get_or-map f (x ∷ xs) (k + 1) x d short, get_or-map f (x ∷ xs) k x d (omega (arith, short))) (up k x low short)

-- ---- functions that were collected and then sorted

module _ {X Y : Type 0} (f : X → Y) (given : List Y) where
  pub collects : (xs new : List X) (x : X) (left more : List Y) → left ≡ f x ∷ more → map f xs ++ left ≡ given → new ≡ xs ++ x ∷ [] → map f new ++ more ≡ given
  collects xs new x left more next so_far push =
      ap (λ (zs : List X). map f zs ++ more) push
      ∙ ap (λ (ys : List Y). ys ++ more) (map_push f xs x)
      ∙ append_assoc (map f xs) (f x ∷ []) more
      ∙ ap (λ (ys : List Y). map f xs ++ ys) (sym next)
      ∙ so_far

  -- one more fits where all fit
  pub fits_one_more : (xs : List X) (y : Y) (left more : List Y) → left ≡ y ∷ more → map f xs ++ left ≡ given → length xs + 1 ≤ length given
  fits_one_more xs y left more next so_far =
      omega (arith, length-map xs f, length-append (map f xs) left, ap length next, ap length so_far)

  pub collected : (xs : List X) (left : List Y) → left ≡ [] → map f xs ++ left ≡ given → map f xs ≡ given
  collected xs left none so_far = sym (append-nil (map f xs)) ∙ ap (λ (ys : List Y). map f xs ++ ys) (sym none) ∙ so_far

pub functions_sorted : {X : Type 0} (f : X → FunctionValueData) (given : List FunctionValueData) (before after : List X) → map f before ≡ given → IsPermutation before after
    → IsSorted (λ a b. function_cmp (f a) (f b)) after → map f after ≡ by_start given
functions_sorted f given before after all moved up =
    sorted_is function_cmp function_cmp_total function_cmp_exact given (map f after)
    (subst (λ (xs : List FunctionValueData). IsPermutation xs (map f after)) all (IsPermutation-map f before after moved))
    (sorted_map function_cmp f after up)

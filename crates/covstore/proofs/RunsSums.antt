-- Adding the runs of items to a test gives the same as adding the items one after another.
use Rattle.covstore.proofs.Words.{◌≡◌, ◌≤◌, Option, List, [], ◌∷◌, ◌++◌, length, map, refl, sym, ap, ◌∙◌, arith, flat_map, slice_cmp, nat_cmp, Ordering, length-append, flat_map-append, ItemData, LineItem, FuncItem, BranchItem, summed, Branch, Function, Kind, Line, at, RunOf, points_with, run_of, runs_of, runs_with, sum_of, with_items, with_runs, branch_cmp, TestData, test_of, with_item}
use Rattle.std.proofs.lemmas.List.{append-nil, append_assoc}
use Rattle.covstore.proofs.EachKind.{same_each}
use Rattle.covstore.proofs.SumsMore.{sums_more}

-- ---- several more items

pub sums_more_items : (items more : List ItemData) → test_of (items ++ more) ≡ with_items more (test_of items)
sums_more_items items [] = ap test_of (append-nil items)
sums_more_items items (item ∷ more) =
    ap test_of (sym (append_assoc items (item ∷ []) more)) ∙ sums_more_items (items ++ item ∷ []) more ∙ ap (with_items more) (sums_more items item)

-- ---- the runs of items

-- one more item is one more in the run of its kind
pub runs_more : (items : List ItemData) (item : ItemData) → runs_of (items ++ item ∷ []) ≡ runs_with item (runs_of items)
runs_more items item = same_each (runs_of (items ++ item ∷ [])) (runs_with item (runs_of items)) (λ kind. by kind)
  where
    of_kind : (kind : Kind) → flat_map (run_of kind) (items ++ item ∷ []) ≡ flat_map (run_of kind) items ++ run_of kind item
    of_kind kind = flat_map-append (run_of kind) items (item ∷ []) ∙ ap (λ (more : RunOf kind). flat_map (run_of kind) items ++ more) (append-nil (run_of kind item))

    by : (kind : Kind) → at kind (runs_of (items ++ item ∷ [])) ≡ at kind (runs_with item (runs_of items))
    by Line = of_kind Line
    by Function = of_kind Function
    by Branch = of_kind Branch

-- an item is at most once in the run of a kind
one_at_most : (kind : Kind) (item : ItemData) → length (run_of kind item) ≤ 1
one_at_most Line (LineItem line count checksum) = omega arith
one_at_most Line (FuncItem name line count) = omega arith
one_at_most Line (BranchItem line block branch taken) = omega arith
one_at_most Function (LineItem line count checksum) = omega arith
one_at_most Function (FuncItem name line count) = omega arith
one_at_most Function (BranchItem line block branch taken) = omega arith
one_at_most Branch (LineItem line count checksum) = omega arith
one_at_most Branch (FuncItem name line count) = omega arith
one_at_most Branch (BranchItem line block branch taken) = omega arith

pub run_few : (kind : Kind) (items : List ItemData) → length (flat_map (run_of kind) items) ≤ length items
run_few kind [] = omega arith
run_few kind (item ∷ items) = omega (arith, length-append (run_of kind item) (flat_map (run_of kind) items), one_at_most kind item, run_few kind items)

-- ---- what the runs add up to

-- adding the run of one item gives the same as adding the item
one_run : (kind : Kind) (item : ItemData) (test : TestData) → points_with kind (run_of kind item) (at kind test) ≡ at kind (with_item item test)
one_run Line (LineItem line count checksum) test = refl
one_run Line (FuncItem name line count) test = refl
one_run Line (BranchItem line block branch taken) test = refl
one_run Function (LineItem line count checksum) test = refl
one_run Function (FuncItem name line count) test = refl
one_run Function (BranchItem line block branch taken) test = refl
one_run Branch (LineItem line count checksum) test = refl
one_run Branch (FuncItem name line count) test = refl
one_run Branch (BranchItem line block branch taken) test = refl

summed_twice : {K V Q M : Type 0} (cmp : K → K → Ordering) (named : Q → K) (sum : M → Option V → V) (run more : List (Q × M)) (pairs : List (K × V))
    → summed cmp named sum (run ++ more) pairs ≡ summed cmp named sum more (summed cmp named sum run pairs)
summed_twice cmp named sum [] more pairs = refl
summed_twice cmp named sum (item ∷ run) more pairs = summed_twice cmp named sum run more (summed cmp named sum (item ∷ []) pairs)

-- likewise for the points of a kind
pub run_sums : (kind : Kind) (items : List ItemData) (test : TestData) → points_with kind (flat_map (run_of kind) items) (at kind test) ≡ at kind (with_items items test)
run_sums kind [] test = refl
run_sums kind (item ∷ items) test = twice kind ∙ ap (points_with kind (flat_map (run_of kind) items)) (one_run kind item test) ∙ run_sums kind items (with_item item test)
  where
    twice : (own : Kind) → points_with own (run_of own item ++ flat_map (run_of own) items) (at own test) ≡ points_with own (flat_map (run_of own) items) (points_with own (run_of own item) (at own test))
    twice Line = summed_twice nat_cmp (λ key. key) (sum_of Line) (run_of Line item) (flat_map (run_of Line) items) test.lines
    twice Function = summed_twice (slice_cmp nat_cmp) (λ key. key) (sum_of Function) (run_of Function item) (flat_map (run_of Function) items) test.functions
    twice Branch = summed_twice branch_cmp (λ key. key) (sum_of Branch) (run_of Branch item) (flat_map (run_of Branch) items) test.branches

-- adding the runs of items gives the same as adding the items
pub runs_sum : (items : List ItemData) (test : TestData) → with_runs (runs_of items) test ≡ with_items items test
runs_sum items test = λ i. record { lines = run_sums Line items test i; functions = run_sums Function items test i; branches = run_sums Branch items test i }

-- ---- queries for points, from the code's values to plain data

pub summed_named : {K V Q M : Type 0} (cmp : K → K → Ordering) (named : Q → K) (sum : M → Option V → V) (run : List (Q × M)) (pairs : List (K × V))
    → summed cmp named sum run pairs ≡ summed cmp (λ key. key) sum (map (λ pair. (named pair.0, pair.1)) run) pairs
summed_named cmp named sum [] pairs = refl
summed_named cmp named sum (item ∷ run) pairs = summed_named cmp named sum run (summed cmp named sum (item ∷ []) pairs)

-- adding a run of queries gives the same as adding the run of the keys that they name
pub summed_as : {K V Q M : Type 0} (cmp : K → K → Ordering) (named : Q → K) (sum : M → Option V → V) (run some : List (Q × M)) (pairs after : List (K × V)) → after ≡ summed cmp named sum some pairs → some ≡ run
    → after ≡ summed cmp (λ key. key) sum (map (λ pair. (named pair.0, pair.1)) run) pairs
summed_as {Q = Q} {M = M} cmp named sum run some pairs after is same =
    is ∙ ap (λ (list : List (Q × M)). summed cmp named sum list pairs) same ∙ summed_named cmp named sum run pairs

-- The own totals that the code counts are those of the definitions, and so is the number of stated totals that differ.
use Rattle.std.proofs.Common.{◌≡◌, ℕ, Bool, true, false, cond, ◌&&◌, ◌||◌, not, List, [], ◌∷◌, ◌++◌, ◌+◌, map, refl, sym, ap, ◌∙◌, arith}
use Rattle.std.specs.Prelude.{count_by, nat_eq, filter}
use Rattle.std.specs.List.{flat_map, list_any}
use Rattle.std.specs.Ordering.{nat_cmp, eq_by_cmp, is_eq, ordering_then}
use Rattle.std.specs.declared.cmp.Ordering.{Ordering}
use Rattle.std.specs.declared.cmp.Ordering.TheVariants.{Less, Equal, Greater}
use Rattle.std.proofs.lemmas.Bool.Decides.{nat_tests}
use Rattle.std.proofs.lemmas.List.{map-id, map-append}
use Rattle.std.proofs.lemmas.List.Sums.{sum_by-cons}
use Rattle.covdata.specs.declared.point.BranchPoint as code
use Rattle.covdata.specs.declared.trace_line.TotalKind.{TotalKind}
use Rattle.covdata.specs.declared.trace_line.TotalKind.TheVariants.{FuncFound, FuncHit, BranchFound, BranchHit, LineFound, LineHit}
use Rattle.covdata.specs.Points.{BranchPoint, branch_point, branch_points, line_point, is_hit}
use Rattle.covdata.specs.Row.{ItemData, LineItem, FuncItem, BranchItem}
use Rattle.covdata.specs.Records.{LineData, Total}
use Rattle.covread.specs.declared.trace.tally.OwnTotals.{OwnTotals}
use Rattle.covread.specs.declared.trace.tally.PointKind.{PointKind}
use Rattle.covread.specs.declared.trace.tally.PointKind.TheVariants.{Branches, Lines}
use Rattle.covread.specs.Reads.{distinct, branch_eq, own_total, items_of}
use Rattle.covread.specs.TracePoints.{branch_key}
use Rattle.covread.specs.TraceTally.{has, states, is_total, own_value, differs, is_other, branch_cmp, AreOwn}
use Rattle.covread.proofs.TraceDistinct.{distinct_on}

-- ---- lines

nat_same : (a b : ℕ) → is_eq (nat_cmp a b) ≡ nat_eq a b
nat_same a b = grind (arith, nat_tests)

lines_differ : (lines : List ℕ) → distinct (eq_by_cmp nat_cmp) lines ≡ distinct nat_eq lines
lines_differ lines = sym (ap (distinct (eq_by_cmp nat_cmp)) (map-id lines)) ∙ distinct_on (λ (n : ℕ). n) (eq_by_cmp nat_cmp) nat_eq nat_same lines

-- ---- branches

abbrev point_at : code.BranchPoint → BranchPoint
point_at k = record { line = k.line; block = k.block; branch = k.branch }

point_of : (i : ItemData) → map point_at (branch_key i) ≡ branch_point i
point_of (LineItem line count checksum) = refl
point_of (FuncItem name line count) = refl
point_of (BranchItem line block branch taken) = refl

points_of : (items : List ItemData) → map point_at (flat_map branch_key items) ≡ branch_points items
points_of [] = refl
points_of (i ∷ items) =
    map-append point_at (branch_key i) (flat_map branch_key items) ∙ ap (λ (ps : List BranchPoint). ps ++ map point_at (flat_map branch_key items)) (point_of i)
    ∙ ap (λ (ps : List BranchPoint). branch_point i ++ ps) (points_of items)

both_eq : (o p : Ordering) → is_eq (ordering_then o p) ≡ (is_eq o && is_eq p)
both_eq Less p = refl
both_eq Equal p = refl
both_eq Greater p = refl

and_three : (a b c : Bool) → (a && (b && c)) ≡ ((a && b) && c)
and_three true b c = refl
and_three false b c = refl

branch_same : (a b : code.BranchPoint) → branch_eq (point_at a) (point_at b) ≡ eq_by_cmp branch_cmp a b
branch_same a b =
    let inner = both_eq (nat_cmp a.block b.block) (nat_cmp a.branch b.branch) ∙ ap (λ (x : Bool). x && is_eq (nat_cmp a.branch b.branch)) (nat_same a.block b.block) ∙ ap (λ (x : Bool). nat_eq a.block b.block && x) (nat_same a.branch b.branch) in
    let outer = both_eq (nat_cmp a.line b.line) (ordering_then (nat_cmp a.block b.block) (nat_cmp a.branch b.branch)) in
    let first = ap (λ (x : Bool). x && is_eq (ordering_then (nat_cmp a.block b.block) (nat_cmp a.branch b.branch))) (nat_same a.line b.line) in
    sym (outer ∙ first ∙ ap (λ (x : Bool). nat_eq a.line b.line && x) inner ∙ and_three (nat_eq a.line b.line) (nat_eq a.block b.block) (nat_eq a.branch b.branch))

branches_differ : (items : List ItemData) → distinct (eq_by_cmp branch_cmp) (flat_map branch_key items) ≡ distinct branch_eq (branch_points items)
branches_differ items = sym (distinct_on point_at branch_eq (eq_by_cmp branch_cmp) branch_same (flat_map branch_key items)) ∙ ap (distinct branch_eq) (points_of items)

-- ---- what the section states

-- the code's own total of this kind is that of the definition, if the section states a total of its sort
own_is : (own : OwnTotals) (inside : List LineData) → AreOwn own inside → (kind : TotalKind) → ((sort : PointKind) → has sort kind ≡ true → list_any (states sort) inside ≡ true) → own_value own kind ≡ own_total kind (items_of inside)
own_is own inside h FuncFound stated = h.functions.found
own_is own inside h FuncHit stated = h.functions.hit
own_is own inside h BranchFound stated = (h.branches (stated Branches refl)).found ∙ branches_differ (items_of inside)
own_is own inside h BranchHit stated = (h.branches (stated Branches refl)).hit ∙ branches_differ (filter is_hit (items_of inside))
own_is own inside h LineFound stated = (h.lines (stated Lines refl)).found ∙ lines_differ (flat_map line_point (items_of inside))
own_is own inside h LineHit stated = (h.lines (stated Lines refl)).hit ∙ lines_differ (flat_map line_point (filter is_hit (items_of inside)))

differs_is : (own : OwnTotals) (inside : List LineData) → AreOwn own inside → (r : LineData) → ((sort : PointKind) → states sort r ≡ true → list_any (states sort) inside ≡ true) → differs own r ≡ is_other inside r
differs_is own inside h (Total kind value) stated = ap (λ (n : ℕ). not (nat_eq value n)) (own_is own inside h kind stated)
differs_is own inside h says stated = refl

or_last : (a b : Bool) → b ≡ true → (a || b) ≡ true
or_last true b h = refl
or_last false b h = h

all_differ : (own : OwnTotals) (inside : List LineData) → AreOwn own inside → (records : List LineData) → ((sort : PointKind) → list_any (states sort) records ≡ true → list_any (states sort) inside ≡ true) → count_by (differs own) records ≡ count_by (is_other inside) records
all_differ own inside h [] stated = refl
all_differ own inside h (r ∷ rs) stated =
    let first : differs own r ≡ is_other inside r = differs_is own inside h r (λ sort e. stated sort (ap (λ (b : Bool). b || list_any (states sort) rs) e)) in
    let others : count_by (differs own) rs ≡ count_by (is_other inside) rs = all_differ own inside h rs (λ sort e. stated sort (or_last (states sort r) (list_any (states sort) rs) e)) in
    let a = sum_by-cons (λ (x : LineData). cond (differs own x) 1 0) r rs in
    let b = sum_by-cons (λ (x : LineData). cond (is_other inside x) 1 0) r rs in
    let one : cond {A = ℕ} (differs own r) 1 0 ≡ cond (is_other inside r) 1 0 = ap (λ (x : Bool). cond {A = ℕ} x 1 0) first in
    omega (arith, a, b, one, others)

odd_is : (own : OwnTotals) (inside : List LineData) → AreOwn own inside → count_by (differs own) inside ≡ count_by (is_other inside) inside
odd_is own inside h = all_differ own inside h inside (λ sort e. e)

-- ---- of the records, only those that state totals matter

any_first : (p : LineData → Bool) (r : LineData) (rs : List LineData) → (is_total r ≡ false → p r ≡ false) → list_any p (cond (is_total r) (r ∷ filter is_total rs) (filter is_total rs)) ≡ (p r || list_any p (filter is_total rs))
any_first p r rs h = by (is_total r) h
  where
    by : (b : Bool) → (b ≡ false → p r ≡ false) → list_any p (cond b (r ∷ filter is_total rs) (filter is_total rs)) ≡ (p r || list_any p (filter is_total rs))
    by true h = refl
    by false h = sym (ap (λ (c : Bool). c || list_any p (filter is_total rs)) (h refl))

any_total : (p : LineData → Bool) → ((r : LineData) → is_total r ≡ false → p r ≡ false) → (rs : List LineData) → list_any p (filter is_total rs) ≡ list_any p rs
any_total p h [] = refl
any_total p h (r ∷ rs) = any_first p r rs (h r) ∙ ap (λ (b : Bool). p r || b) (any_total p h rs)

abbrev one_if : Bool → ℕ
one_if b = cond b 1 0

count_first : (p : LineData → Bool) (r : LineData) (rs : List LineData) → (is_total r ≡ false → p r ≡ false) → count_by p (cond (is_total r) (r ∷ filter is_total rs) (filter is_total rs)) ≡ one_if (p r) + count_by p (filter is_total rs)
count_first p r rs h = by (is_total r) h
  where
    by : (b : Bool) → (b ≡ false → p r ≡ false) → count_by p (cond b (r ∷ filter is_total rs) (filter is_total rs)) ≡ one_if (p r) + count_by p (filter is_total rs)
    by true h = sum_by-cons (λ (x : LineData). cond (p x) 1 0) r (filter is_total rs)
    by false h = let e = ap one_if (h refl) in omega (arith, e)

count_total : (p : LineData → Bool) → ((r : LineData) → is_total r ≡ false → p r ≡ false) → (rs : List LineData) → count_by p (filter is_total rs) ≡ count_by p rs
count_total p h [] = refl
count_total p h (r ∷ rs) =
    let a = count_first p r rs (h r) in
    let b = sum_by-cons (λ (x : LineData). cond (p x) 1 0) r rs in
    omega (arith, a, b, count_total p h rs)

differs_total : (own : OwnTotals) (r : LineData) → is_total r ≡ false → differs own r ≡ false
differs_total own (Total kind value) e = absurd cc
differs_total own says e = refl

states_total : (sort : PointKind) (r : LineData) → is_total r ≡ false → states sort r ≡ false
states_total sort (Total kind value) e = absurd cc
states_total sort says e = refl

-- the section states a total of this sort exactly if one of its stated totals is of this sort
pub stated_is : (sort : PointKind) (totals inside : List LineData) → totals ≡ filter is_total inside → list_any (states sort) totals ≡ list_any (states sort) inside
stated_is sort totals inside e = ap (list_any (states sort)) e ∙ any_total (states sort) (states_total sort) inside

-- the number of stated totals that differ from the code's own is the number of odd ones
pub odd_totals_are : (own : OwnTotals) (totals inside : List LineData) (odd : ℕ) → totals ≡ filter is_total inside → AreOwn own inside → odd ≡ count_by (differs own) totals → odd ≡ count_by (is_other inside) inside
odd_totals_are own totals inside odd e h o = o ∙ ap (count_by (differs own)) e ∙ count_total (differs own) (differs_total own) inside ∙ odd_is own inside h

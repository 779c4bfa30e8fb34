-- Lines, functions and branches with their values satisfy `IsKind` of `ContentsKinds`: a new value is decided by the old value
-- and the added items.
use Rattle.std.proofs.Common.{◌≡◌, ℕ, ◌+◌, Bool, true, false, ◌&&◌, eqb, min, Option, Some, None, unwrap_or, List, [], ◌∷◌, ◌++◌, refl, sym, ap, ◌∙◌, subst, inl, inr, ⊎_elim, arith}
use Rattle.std.specs.Cmp.Lexicographic.{slice_cmp}
use Rattle.std.specs.List.{flat_map, sum_by, fold}
use Rattle.std.specs.Option.{is_some}
use Rattle.std.specs.Ordering.{nat_cmp}
use Rattle.std.specs.Str.{bytes_eq}
use Rattle.std.proofs.lemmas.Bool.{cond-true, cond-false, false≢true, eqb-true}
use Rattle.std.proofs.lemmas.List.Concat.{flat_map-append}
use Rattle.std.proofs.lemmas.List.Sums.{sum_by-cons, sum_by-append, fold-append}
use Rattle.std.proofs.lemmas.Option.{same_Some, none-some}
use Rattle.std.proofs.lemmas.Slice.Eq.{bytes_eq-Decides}
use Rattle.covdata.specs.Points.{BranchPoint, line_point, func_point, branch_point, line_points, func_points, branch_points, least}
use Rattle.covdata.specs.Row.{ItemData, LineItem, FuncItem, BranchItem}
use Rattle.covtable.specs.Content.{FunctionValueData, BranchValueData, LineValueData, function_at, branch_at, line_at}
use Rattle.covtable.specs.Value.{bounded, branch_cmp, line_added, line_value, checksum_said, first_of, line_checksum, start_said, function_start, function_added, function_count, is_branch, taken_said, sum_if_any, branch_value}
use Rattle.covtable.proofs.ContentsKinds.{IsKind}
use Rattle.covtable.proofs.ContentsLists.{In-flat, In-unflat, In-or_not}
use Rattle.covtable.proofs.Members.{In, In-joined}
use Rattle.covtable.proofs.Orders.{lines_order, names_order, branches_order}

-- ---- items that don't have a point contribute nothing to it

pub nothing_said : {P X : Type 0} (point : ItemData → List P) (said : ItemData → List X) (p : P) → ((item : ItemData) → (In p (point item) → ⊥) → said item ≡ [])
    → (items : List ItemData) → (In p (flat_map point items) → ⊥) → flat_map said items ≡ []
nothing_said point said p one [] none = refl
nothing_said {P} {X} point said p one (item ∷ items) none =
    let here : said item ≡ [] = one item (λ i. none (In-joined (point item) (flat_map point items) p (inl i))) in
    let others : flat_map said items ≡ [] = nothing_said point said p one items (λ i. none (In-joined (point item) (flat_map point items) p (inr i))) in
    ap (λ (xs : List X). xs ++ flat_map said items) here ∙ others

pub nothing_added : {P : Type 0} (point : ItemData → List P) (added : ItemData → ℕ) (p : P) → ((item : ItemData) → (In p (point item) → ⊥) → added item ≡ 0)
    → (items : List ItemData) → (In p (flat_map point items) → ⊥) → sum_by added items ≡ 0
nothing_added point added p one [] none = refl
nothing_added point added p one (item ∷ items) none =
    let here : added item ≡ 0 = one item (λ i. none (In-joined (point item) (flat_map point items) p (inl i))) in
    let others : sum_by added items ≡ 0 = nothing_added point added p one items (λ i. none (In-joined (point item) (flat_map point items) p (inr i))) in
    omega (arith, sum_by-cons added item items)

pub unless : (b : Bool) → (b ≡ true → ⊥) → b ≡ false
unless true f = absurd (f refl)
unless false f = refl

other_line : (at line : ℕ) → (In line (at ∷ []) → ⊥) → eqb at line ≡ false
other_line at line none = unless (eqb at line) (λ e. none (inl (eqb-true at line e)))

other_name : (other name : List ℕ) → (In name (other ∷ []) → ⊥) → bytes_eq other name ≡ false
other_name other name none = unless (bytes_eq other name) (λ e. none (inl ((bytes_eq-Decides other name).0 e)))

all_three : (x y z : Bool) → (x && y && z) ≡ true → (x ≡ true) × (y ≡ true) × (z ≡ true)
all_three true true true e = (refl, refl, refl)
all_three true true false e = absurd (false≢true e)
all_three true false z e = absurd (false≢true e)
all_three false y z e = absurd (false≢true e)

other_branch : (point : BranchPoint) (line block branch : ℕ) → (In point (record { line = line; block = block; branch = branch } ∷ []) → ⊥) → is_branch point line block branch ≡ false
other_branch point line block branch none =
    unless (is_branch point line block branch)
    (λ e.
    let all = all_three (eqb line point.line) (eqb block point.block) (eqb branch point.branch) e in
    none (inl (λ i. record { line = eqb-true line point.line all.0 i; block = eqb-true block point.block all.1 i; branch = eqb-true branch point.branch all.2 i })))

-- ---- lines

pub line_unadded : (line : ℕ) (item : ItemData) → (In line (line_point item) → ⊥) → line_added line item ≡ 0
line_unadded line (LineItem at count checksum) none = cond-false (eqb at line) count 0 (other_line at line none)
line_unadded line (FuncItem name start count) none = refl
line_unadded line (BranchItem at block branch taken) none = refl

pub checksum_unsaid : (line : ℕ) (item : ItemData) → (In line (line_point item) → ⊥) → checksum_said line item ≡ []
checksum_unsaid line (LineItem at count (Some checksum)) none = cond-false (eqb at line) (checksum ∷ []) [] (other_line at line none)
checksum_unsaid line (LineItem at count None) none = refl
checksum_unsaid line (FuncItem name start count) none = refl
checksum_unsaid line (BranchItem at block branch taken) none = refl

pub same_line : (line : ℕ) (xs ys : List ItemData) → line_value line xs ≡ line_value line ys → line_checksum line xs ≡ line_checksum line ys → line_at xs line ≡ line_at ys line
same_line line xs ys count checksum = λ i. record { line = line; count = count i; checksum = checksum i }

-- if two numbers are equal once bounded, they are so after the same number is added to both
pub bounded_more : (a b n : ℕ) → bounded a ≡ bounded b → bounded (a + n) ≡ bounded (b + n)
bounded_more a b n e = omega (arith, e)

sum_more : (added : ItemData → ℕ) (xs ys zs : List ItemData) → bounded (sum_by added xs) ≡ bounded (sum_by added ys) → bounded (sum_by added (xs ++ zs)) ≡ bounded (sum_by added (ys ++ zs))
sum_more added xs ys zs e =
    ap bounded (sum_by-append added xs zs) ∙ bounded_more (sum_by added xs) (sum_by added ys) (sum_by added zs) e ∙ sym (ap bounded (sum_by-append added ys zs))

said_more : {X Y : Type 0} (value : List X → Y) (said : ItemData → List X) (xs ys zs : List ItemData)
    → value (flat_map said xs ++ flat_map said zs) ≡ value (flat_map said ys ++ flat_map said zs) → value (flat_map said (xs ++ zs)) ≡ value (flat_map said (ys ++ zs))
said_more value said xs ys zs e = ap value (flat_map-append said xs zs) ∙ e ∙ sym (ap value (flat_map-append said ys zs))

first_more : {X : Type 0} (xs ys zs : List X) → first_of xs ≡ first_of ys → first_of (xs ++ zs) ≡ first_of (ys ++ zs)
first_more [] [] zs e = refl
first_more [] (y ∷ ys) zs e = absurd (none-some y e)
first_more (x ∷ xs) [] zs e = absurd (none-some x (sym e))
first_more (x ∷ xs) (y ∷ ys) zs e = e

pub lines_kind : IsKind nat_cmp line_points line_at (λ (v : LineValueData). v.line)
lines_kind = record {
  order = lines_order;
  joins = λ xs ys. flat_map-append line_point xs ys;
  own = λ xs line. refl;
  absent = λ xs line none.
      same_line line xs [] (ap bounded (nothing_added line_point (line_added line) line (line_unadded line) xs none))
      (ap first_of (nothing_said line_point (checksum_said line) line (checksum_unsaid line) xs none));
  extends = λ xs ys zs line e there back.
      same_line line (xs ++ zs) (ys ++ zs) (sum_more (line_added line) xs ys zs (ap (λ (v : LineValueData). v.count) e))
      (said_more first_of (checksum_said line) xs ys zs
      (first_more (flat_map (checksum_said line) xs) (flat_map (checksum_said line) ys) (flat_map (checksum_said line) zs) (ap (λ (v : LineValueData). v.checksum) e)));
}

-- ---- functions

pub count_unadded : (name : List ℕ) (item : ItemData) → (In name (func_point item) → ⊥) → function_added name item ≡ 0
count_unadded name (FuncItem other line count) none = cond-false (bytes_eq other name) count 0 (other_name other name none)
count_unadded name (LineItem line count checksum) none = refl
count_unadded name (BranchItem line block branch taken) none = refl

pub start_unsaid : (name : List ℕ) (item : ItemData) → (In name (func_point item) → ⊥) → start_said name item ≡ []
start_unsaid name (FuncItem other line count) none = cond-false (bytes_eq other name) (line ∷ []) [] (other_name other name none)
start_unsaid name (LineItem line count checksum) none = refl
start_unsaid name (BranchItem line block branch taken) none = refl

start_of_item : (name : List ℕ) (item : ItemData) → In name (func_point item) → (start : ℕ) × In start (start_said name item)
start_of_item name (FuncItem other line count) (inl is) = (line, subst (In line) (sym (cond-true (bytes_eq other name) (line ∷ []) [] ((bytes_eq-Decides other name).1 is))) (inl refl))
start_of_item name (FuncItem other line count) (inr i) = absurd i
start_of_item name (LineItem line count checksum) i = absurd i
start_of_item name (BranchItem line block branch taken) i = absurd i

some_least : (ns : List ℕ) (n : ℕ) → In n ns → is_some (least ns) ≡ true
some_least [] n i = absurd i
some_least (m ∷ ns) n i = refl

pub has_start : (name : List ℕ) (items : List ItemData) → In name (func_points items) → is_some (least (flat_map (start_said name) items)) ≡ true
has_start name items i =
    let item = In-unflat func_point items name i in
    let start = start_of_item name item.0 item.2 in
    some_least (flat_map (start_said name) items) start.0 (In-flat (start_said name) items item.0 start.0 item.1 start.1)

same_number : (o p : Option ℕ) → is_some o ≡ true → is_some p ≡ true → unwrap_or o 0 ≡ unwrap_or p 0 → o ≡ p
same_number (Some n) (Some m) x y e = ap (λ (k : ℕ). Some k) e
same_number None p x y e = absurd (false≢true x)
same_number (Some n) None x y e = absurd (false≢true y)

least_more : (xs ys zs : List ℕ) → least xs ≡ least ys → least (xs ++ zs) ≡ least (ys ++ zs)
least_more [] [] zs e = refl
least_more [] (y ∷ ys) zs e = absurd (none-some (fold min y ys) e)
least_more (x ∷ xs) [] zs e = absurd (none-some (fold min x xs) (sym e))
least_more (x ∷ xs) (y ∷ ys) zs e =
    ap (λ (n : ℕ). Some n)
    (fold-append min x xs zs ∙ ap (λ (n : ℕ). fold min n zs) (same_Some (fold min x xs) (fold min y ys) e) ∙ sym (fold-append min y ys zs))

-- `function_start` is 0 if no item gives a start line, but an item may also give 0. If both lists have the function or neither
-- does, the least start lines are equal too
same_least : (name : List ℕ) (xs ys : List ItemData) → function_start name xs ≡ function_start name ys → (In name (func_points xs) → In name (func_points ys)) → (In name (func_points ys) → In name (func_points xs))
    → least (flat_map (start_said name) xs) ≡ least (flat_map (start_said name) ys)
same_least name xs ys e there back =
    ⊎_elim
    (λ (i : In name (func_points xs)). same_number (least (flat_map (start_said name) xs)) (least (flat_map (start_said name) ys)) (has_start name xs i) (has_start name ys (there i)) e)
    (λ (none : In name (func_points xs) → ⊥).
    ap least (nothing_said func_point (start_said name) name (start_unsaid name) xs none
    ∙ sym (nothing_said func_point (start_said name) name (start_unsaid name) ys (λ i. none (back i)))))
    (In-or_not (slice_cmp nat_cmp) names_order name (func_points xs))

pub same_function : (name : List ℕ) (xs ys : List ItemData) → least (flat_map (start_said name) xs) ≡ least (flat_map (start_said name) ys) → function_count name xs ≡ function_count name ys → function_at xs name ≡ function_at ys name
same_function name xs ys start count = λ i. record { line = unwrap_or (start i) 0; name = name; count = count i }

pub functions_kind : IsKind (slice_cmp nat_cmp) func_points function_at (λ (v : FunctionValueData). v.name)
functions_kind = record {
  order = names_order;
  joins = λ xs ys. flat_map-append func_point xs ys;
  own = λ xs name. refl;
  absent = λ xs name none.
      same_function name xs [] (ap least (nothing_said func_point (start_said name) name (start_unsaid name) xs none))
      (ap bounded (nothing_added func_point (function_added name) name (count_unadded name) xs none));
  extends = λ xs ys zs name e there back.
      same_function name (xs ++ zs) (ys ++ zs)
      (said_more least (start_said name) xs ys zs
      (least_more (flat_map (start_said name) xs) (flat_map (start_said name) ys) (flat_map (start_said name) zs)
      (same_least name xs ys (ap (λ (v : FunctionValueData). v.line) e) there back)))
      (sum_more (function_added name) xs ys zs (ap (λ (v : FunctionValueData). v.count) e));
}

-- ---- branches

pub taken_unsaid : (point : BranchPoint) (item : ItemData) → (In point (branch_point item) → ⊥) → taken_said point item ≡ []
taken_unsaid point (BranchItem line block branch (Some taken)) none = cond-false (is_branch point line block branch) (taken ∷ []) [] (other_branch point line block branch none)
taken_unsaid point (BranchItem line block branch None) none = refl
taken_unsaid point (LineItem line count checksum) none = refl
taken_unsaid point (FuncItem name line count) none = refl

sum_if_more : (xs ys zs : List ℕ) → sum_if_any xs ≡ sum_if_any ys → sum_if_any (xs ++ zs) ≡ sum_if_any (ys ++ zs)
sum_if_more [] [] zs e = refl
sum_if_more [] (y ∷ ys) zs e = absurd (none-some (bounded (sum_by (λ (m : ℕ). m) (y ∷ ys))) e)
sum_if_more (x ∷ xs) [] zs e = absurd (none-some (bounded (sum_by (λ (m : ℕ). m) (x ∷ xs))) (sym e))
sum_if_more (x ∷ xs) (y ∷ ys) zs e =
    let add = λ (m : ℕ). m in
    let same = same_Some (bounded (sum_by add (x ∷ xs))) (bounded (sum_by add (y ∷ ys))) e in
    ap (λ (n : ℕ). Some n)
    (ap bounded (sum_by-append add (x ∷ xs) zs) ∙ bounded_more (sum_by add (x ∷ xs)) (sum_by add (y ∷ ys)) (sum_by add zs) same ∙ sym (ap bounded (sum_by-append add (y ∷ ys) zs)))

pub same_branch : (point : BranchPoint) (xs ys : List ItemData) → branch_value point xs ≡ branch_value point ys → branch_at xs point ≡ branch_at ys point
same_branch point xs ys taken = λ i. record { point = point; taken = taken i }

pub branches_kind : IsKind branch_cmp branch_points branch_at (λ (v : BranchValueData). v.point)
branches_kind = record {
  order = branches_order;
  joins = λ xs ys. flat_map-append branch_point xs ys;
  own = λ xs point. refl;
  absent = λ xs point none. same_branch point xs [] (ap sum_if_any (nothing_said branch_point (taken_said point) point (taken_unsaid point) xs none));
  extends = λ xs ys zs point e there back.
      same_branch point (xs ++ zs) (ys ++ zs)
      (said_more sum_if_any (taken_said point) xs ys zs
      (sum_if_more (flat_map (taken_said point) xs) (flat_map (taken_said point) ys) (flat_map (taken_said point) zs) (ap (λ (v : BranchValueData). v.taken) e)));
}

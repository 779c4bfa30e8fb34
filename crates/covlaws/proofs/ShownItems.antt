-- The items of a printed section: what their four parts say and add. The order of the functions doesn't matter.
use Rattle.std.proofs.Common.{◌≡◌, ℕ, ◌+◌, List, [], ◌∷◌, ◌++◌, map, ap, ap₂, ◌∙◌, arith}
use Rattle.std.specs.declared.cmp.Ordering.{Ordering}
use Rattle.std.specs.declared.cmp.Ordering.TheVariants.{Less, Equal, Greater}
use Rattle.std.specs.Ordering.{match_ordering}
use Rattle.std.specs.List.{flat_map, sum_by}
use Rattle.std.specs.List.Sorted.{IsPermutation}
use Rattle.std.proofs.lemmas.List.{append-nil}
use Rattle.std.proofs.lemmas.List.Concat.{flat_map-append}
use Rattle.std.proofs.lemmas.List.Folds.{flat_map-map}
use Rattle.std.proofs.lemmas.List.Sorted.{IsPermutation-refl, IsPermutation-cons, IsPermutation-trans, IsPermutation-middle, IsPermutation-map, IsPermutation-append}
use Rattle.std.proofs.lemmas.List.Sums.{sum_by-append}
use Rattle.covtable.specs.Content.{FunctionValueData, BranchValueData, LineValueData, SectionData}
use Rattle.covlaws.specs.Printable.{start_item, call_item, branch_item, line_item, items_shown}
use Rattle.covreport.specs.Report.{put_in, sorted, function_cmp, by_start}
use Rattle.covdata.specs.Row.{ItemData}
use Rattle.covtable.proofs.Alike.{AreAlike, alike_permuted, sum_by-map}
use Rattle.covlaws.proofs.ShownLists.{flat_nothing, sum_nothing}

-- ---- a sort only moves elements

moved_put_in : {X : Type 0} (cmp : X → X → Ordering) (x : X) (ys : List X) → IsPermutation (put_in cmp x ys) (x ∷ ys)
moved_put_in cmp x [] = IsPermutation-refl (x ∷ [])
moved_put_in {X} cmp x (y ∷ ys) = by (cmp x y) (moved_put_in cmp x ys)
  where
    by : (o : Ordering) → IsPermutation (put_in cmp x ys) (x ∷ ys) → IsPermutation (match_ordering o (x ∷ y ∷ ys) (x ∷ y ∷ ys) (y ∷ put_in cmp x ys)) (x ∷ y ∷ ys)
    by Less later = IsPermutation-refl (x ∷ y ∷ ys)
    by Equal later = IsPermutation-refl (x ∷ y ∷ ys)
    by Greater later = IsPermutation-trans (y ∷ put_in cmp x ys) (y ∷ x ∷ ys) (x ∷ y ∷ ys) (IsPermutation-cons y (put_in cmp x ys) (x ∷ ys) later) (IsPermutation-middle (y ∷ []) x ys)

moved_sorted : {X : Type 0} (cmp : X → X → Ordering) (xs : List X) → IsPermutation (sorted cmp xs) xs
moved_sorted cmp [] = IsPermutation-refl []
moved_sorted cmp (x ∷ xs) = IsPermutation-trans (put_in cmp x (sorted cmp xs)) (x ∷ sorted cmp xs) (x ∷ xs) (moved_put_in cmp x (sorted cmp xs)) (IsPermutation-cons x (sorted cmp xs) xs (moved_sorted cmp xs))

-- ---- the items part by part

-- the items of these functions, branches and lines, in the order of the lists
abbrev pub items_with : List FunctionValueData → List BranchValueData → List LineValueData → List ItemData
items_with fs bs ls = map start_item fs ++ (map call_item fs ++ (map branch_item bs ++ map line_item ls))

-- the items of a section, with the functions in the order in which the section has them, by name
abbrev pub items_by_name : SectionData → List ItemData
items_by_name s = items_with s.functions s.branches s.lines

parts_moved : (fs gs : List FunctionValueData) (others : List ItemData) → IsPermutation fs gs
    → IsPermutation (map start_item fs ++ (map call_item fs ++ others)) (map start_item gs ++ (map call_item gs ++ others))
parts_moved fs gs others moved =
    IsPermutation-append (map start_item fs) (map start_item gs) (map call_item fs ++ others) (map call_item gs ++ others)
    (IsPermutation-map start_item fs gs moved)
    (IsPermutation-append (map call_item fs) (map call_item gs) others others (IsPermutation-map call_item fs gs moved) (IsPermutation-refl others))

pub shown_alike : (s : SectionData) → AreAlike (items_shown s) (items_by_name s)
shown_alike s =
    alike_permuted (items_shown s) (items_by_name s)
    (parts_moved (by_start s.functions) s.functions (map branch_item s.branches ++ map line_item s.lines) (moved_sorted function_cmp s.functions))

module _ (fs : List FunctionValueData) (bs : List BranchValueData) (ls : List LineValueData) where
  -- all items say what the four parts say, in turn
  said_parts : {Y : Type 0} (g : ItemData → List Y)
      → flat_map g (items_with fs bs ls)
      ≡ flat_map (λ f. g (start_item f)) fs ++ (flat_map (λ f. g (call_item f)) fs ++ (flat_map (λ b. g (branch_item b)) bs ++ flat_map (λ l. g (line_item l)) ls))
  said_parts {Y} g =
      split (map start_item fs) (map call_item fs ++ (map branch_item bs ++ map line_item ls)) _ _ (flat_map-map g start_item fs)
      (split (map call_item fs) (map branch_item bs ++ map line_item ls) _ _ (flat_map-map g call_item fs)
      (split (map branch_item bs) (map line_item ls) _ _ (flat_map-map g branch_item bs) (flat_map-map g line_item ls)))
    where
      split : (xs ys : List ItemData) (us vs : List Y) → flat_map g xs ≡ us → flat_map g ys ≡ vs → flat_map g (xs ++ ys) ≡ us ++ vs
      split xs ys us vs d e = flat_map-append g xs ys ∙ ap₂ (λ (us vs : List Y). us ++ vs) d e

  added_parts : (f : ItemData → ℕ)
      → sum_by f (items_with fs bs ls)
      ≡ sum_by (λ v. f (start_item v)) fs + (sum_by (λ v. f (call_item v)) fs + (sum_by (λ b. f (branch_item b)) bs + sum_by (λ l. f (line_item l)) ls))
  added_parts f =
      split (map start_item fs) (map call_item fs ++ (map branch_item bs ++ map line_item ls)) _ _ (sum_by-map f start_item fs)
      (split (map call_item fs) (map branch_item bs ++ map line_item ls) _ _ (sum_by-map f call_item fs)
      (split (map branch_item bs) (map line_item ls) _ _ (sum_by-map f branch_item bs) (sum_by-map f line_item ls)))
    where
      split : (xs ys : List ItemData) (m n : ℕ) → sum_by f xs ≡ m → sum_by f ys ≡ n → sum_by f (xs ++ ys) ≡ m + n
      split xs ys m n d e = sum_by-append f xs ys ∙ ap₂ (λ (m n : ℕ). m + n) d e

  skip : {Y : Type 0} (xs ys : List Y) → xs ≡ [] → xs ++ ys ≡ ys
  skip {Y} xs ys none = ap (λ (zs : List Y). zs ++ ys) none

  -- if functions and branches say nothing, all items say what the lines say
  pub said_of_lines : {Y : Type 0} (g : ItemData → List Y) → ((f : FunctionValueData) → g (start_item f) ≡ []) → ((f : FunctionValueData) → g (call_item f) ≡ [])
      → ((b : BranchValueData) → g (branch_item b) ≡ []) → flat_map g (items_with fs bs ls) ≡ flat_map (λ l. g (line_item l)) ls
  said_of_lines g starts calls branches =
      said_parts g
      ∙ skip (flat_map (λ f. g (start_item f)) fs) _ (flat_nothing (λ f. g (start_item f)) fs (λ f _. starts f))
      ∙ skip (flat_map (λ f. g (call_item f)) fs) _ (flat_nothing (λ f. g (call_item f)) fs (λ f _. calls f))
      ∙ skip (flat_map (λ b. g (branch_item b)) bs) _ (flat_nothing (λ b. g (branch_item b)) bs (λ b _. branches b))

  pub said_of_branches : {Y : Type 0} (g : ItemData → List Y) → ((f : FunctionValueData) → g (start_item f) ≡ []) → ((f : FunctionValueData) → g (call_item f) ≡ [])
      → ((l : LineValueData) → g (line_item l) ≡ []) → flat_map g (items_with fs bs ls) ≡ flat_map (λ b. g (branch_item b)) bs
  said_of_branches {Y} g starts calls lines =
      said_parts g
      ∙ skip (flat_map (λ f. g (start_item f)) fs) _ (flat_nothing (λ f. g (start_item f)) fs (λ f _. starts f))
      ∙ skip (flat_map (λ f. g (call_item f)) fs) _ (flat_nothing (λ f. g (call_item f)) fs (λ f _. calls f))
      ∙ ap (λ (ys : List Y). flat_map (λ b. g (branch_item b)) bs ++ ys) (flat_nothing (λ l. g (line_item l)) ls (λ l _. lines l))
      ∙ append-nil (flat_map (λ b. g (branch_item b)) bs)

  pub said_of_functions : {Y : Type 0} (g : ItemData → List Y) → ((b : BranchValueData) → g (branch_item b) ≡ []) → ((l : LineValueData) → g (line_item l) ≡ [])
      → flat_map g (items_with fs bs ls) ≡ flat_map (λ f. g (start_item f)) fs ++ flat_map (λ f. g (call_item f)) fs
  said_of_functions {Y} g branches lines =
      said_parts g
      ∙ ap (λ (ys : List Y). flat_map (λ f. g (start_item f)) fs ++ (flat_map (λ f. g (call_item f)) fs ++ ys))
      (skip (flat_map (λ b. g (branch_item b)) bs) _ (flat_nothing (λ b. g (branch_item b)) bs (λ b _. branches b)) ∙ flat_nothing (λ l. g (line_item l)) ls (λ l _. lines l))
      ∙ ap (λ (ys : List Y). flat_map (λ f. g (start_item f)) fs ++ ys) (append-nil (flat_map (λ f. g (call_item f)) fs))

  -- if functions and branches add nothing, all items add up to what the lines do
  pub added_by_lines : (f : ItemData → ℕ) → ((v : FunctionValueData) → f (start_item v) ≡ 0) → ((v : FunctionValueData) → f (call_item v) ≡ 0)
      → ((b : BranchValueData) → f (branch_item b) ≡ 0) → sum_by f (items_with fs bs ls) ≡ sum_by (λ l. f (line_item l)) ls
  added_by_lines f starts calls branches =
      omega (arith, added_parts f, sum_nothing (λ v. f (start_item v)) fs (λ v _. starts v), sum_nothing (λ v. f (call_item v)) fs (λ v _. calls v), sum_nothing (λ b. f (branch_item b)) bs (λ b _. branches b))

  pub added_by_calls : (f : ItemData → ℕ) → ((v : FunctionValueData) → f (start_item v) ≡ 0) → ((b : BranchValueData) → f (branch_item b) ≡ 0)
      → ((l : LineValueData) → f (line_item l) ≡ 0) → sum_by f (items_with fs bs ls) ≡ sum_by (λ v. f (call_item v)) fs
  added_by_calls f starts branches lines =
      omega (arith, added_parts f, sum_nothing (λ v. f (start_item v)) fs (λ v _. starts v), sum_nothing (λ b. f (branch_item b)) bs (λ b _. branches b), sum_nothing (λ l. f (line_item l)) ls (λ l _. lines l))

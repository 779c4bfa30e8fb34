-- The sums of branches after one more item.
use Rattle.covstore.proofs.Words.{◌≡◌, ℕ, ◌+◌, Bool, true, ◌&&◌, eqb, Option, Some, None, List, [], ◌∷◌, ◌++◌, refl, ap, ◌∙◌, arith, flat_map, sum_by, cond-true, eq-eqb, sum_by-append, sum_by-cons, BranchPoint, branch_point, branch_points, ItemData, BranchItem, put, value_of, branch_sum, branch_with, sum_taken, bounded, branch_cmp, branch_value, is_branch, sum_if_any, taken_said, In, branches_order}
use Rattle.std.proofs.lemmas.List.{append-nil}
use Rattle.covstore.specs.declared.sums.BranchSum.{BranchSum}
use Rattle.covtable.proofs.Bounds.{bounded_sum}
use Rattle.covtable.proofs.ContentsPoints.{nothing_said, taken_unsaid}
use Rattle.covstore.proofs.SumsKinds.{sums, sums_put, sums_same}
use Rattle.covstore.proofs.SumsLast.{last_said, none_said}

-- what items add up to at a branch
abbrev pub branch_held : List ItemData → BranchPoint → BranchSum
branch_held items point = (branch_sum items point).1

-- an item of another point leaves the branch's sum as it is
branch_others : (items : List ItemData) (item : ItemData) (point : BranchPoint) → (In point (branch_point item) → ⊥) → branch_held (items ++ item ∷ []) point ≡ branch_held items point
branch_others items item point none =
    let said = none_said (taken_said point) items item (taken_unsaid point item none) in
    λ i. record { times = sum_if_any (said i) }

-- ---- an item of the branch

abbrev point_of : ℕ → ℕ → ℕ → BranchPoint
point_of line block branch = record { line = line; block = block; branch = branch }

all_true : (x y z : Bool) → x ≡ true → y ≡ true → z ≡ true → (x && y && z) ≡ true
all_true x y z a b c = ap (λ (x : Bool). x && y && z) a ∙ ap (λ (y : Bool). y && z) b ∙ c

-- the numbers that an item gives its branch: at most one
abbrev reports : Option ℕ → List ℕ
reports None = []
reports (Some taken) = taken ∷ []

own_taken : (line block branch : ℕ) (taken : Option ℕ) → taken_said (point_of line block branch) (BranchItem line block branch taken) ≡ reports taken
own_taken line block branch None = refl
own_taken line block branch (Some taken) =
    cond-true (is_branch (point_of line block branch) line block branch) (taken ∷ []) []
    (all_true (eqb line line) (eqb block block) (eqb branch branch) (eq-eqb line line refl) (eq-eqb block block refl) (eq-eqb branch branch refl))

sum_one : (n : ℕ) → sum_by (λ m. m) (n ∷ []) ≡ n
sum_one n =
    let nothing : sum_by (λ m. m) [] ≡ 0 = refl in
    omega (arith, sum_by-cons (λ m. m) n [], nothing)

sum_reports : (numbers : List ℕ) (taken : Option ℕ) → sum_if_any (numbers ++ reports taken) ≡ sum_taken (sum_if_any numbers) taken
sum_reports [] None = refl
sum_reports [] (Some taken) = ap (λ (n : ℕ). Some (bounded n)) (sum_one taken)
sum_reports (n ∷ numbers) None = ap (λ (ns : List ℕ). Some (bounded (sum_by (λ (m : ℕ). m) (n ∷ ns)))) (append-nil numbers)
sum_reports (n ∷ numbers) (Some taken) =
    ap (λ (k : ℕ). Some (bounded k)) (sum_by-append (λ m. m) (n ∷ numbers) (taken ∷ []) ∙ ap (λ (k : ℕ). sum_by (λ (m : ℕ). m) (n ∷ numbers) + k) (sum_one taken))
    ∙ ap (λ (k : ℕ). Some k) (bounded_sum (sum_by (λ m. m) (n ∷ numbers)) taken)

module _ (items : List ItemData) (line block branch : ℕ) (taken : Option ℕ) where
  taken_more : branch_value (point_of line block branch) (items ++ BranchItem line block branch taken ∷ []) ≡ sum_taken (branch_value (point_of line block branch) items) taken
  taken_more =
      let point = point_of line block branch in
      ap sum_if_any (last_said (taken_said point) items (BranchItem line block branch taken) ∙ ap (λ (said : List ℕ). flat_map (taken_said point) items ++ said) (own_taken line block branch taken))
      ∙ sum_reports (flat_map (taken_said point) items) taken

  branch_more : branch_held (items ++ BranchItem line block branch taken ∷ []) (point_of line block branch) ≡ branch_with taken (Some (branch_held items (point_of line block branch)))
  branch_more = λ i. record { times = taken_more i }

  branch_first : (In (point_of line block branch) (branch_points items) → ⊥) → branch_held (items ++ BranchItem line block branch taken ∷ []) (point_of line block branch) ≡ branch_with taken None
  branch_first none =
      let said = nothing_said branch_point (taken_said (point_of line block branch)) (point_of line block branch) (taken_unsaid (point_of line block branch)) items none in
      branch_more ∙ ap (λ (said : List ℕ). branch_with taken (Some (record { times = sum_if_any said }))) said

  pub branches_put : sums branch_cmp branch_point branch_held (items ++ BranchItem line block branch taken ∷ [])
      ≡ put branch_cmp (point_of line block branch) (branch_with taken (value_of branch_cmp (point_of line block branch) (sums branch_cmp branch_point branch_held items)))
      (sums branch_cmp branch_point branch_held items)
  branches_put =
      sums_put branches_order branch_point branch_held items (BranchItem line block branch taken) (branch_others items (BranchItem line block branch taken)) (point_of line block branch) (branch_with taken) refl
      branch_first (λ _. branch_more)

-- an item of another kind leaves all branches as they are
pub branches_same : (items : List ItemData) (item : ItemData) → branch_point item ≡ [] → sums branch_cmp branch_point branch_held (items ++ item ∷ []) ≡ sums branch_cmp branch_point branch_held items
branches_same items item none = sums_same branches_order branch_point branch_held items item (branch_others items item) none

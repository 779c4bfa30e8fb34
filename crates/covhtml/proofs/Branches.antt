-- Branches that were taken, seen as plain data.
use Rattle.std.proofs.Common.{◌≡◌, ℕ, ◌+◌, cond, List, [], ◌∷◌, ◌++◌, length, map, count_by, codes, refl, sym, ap, ◌∙◌}
use Rattle.std.specs.List.{flat_map}
use Rattle.std.proofs.lemmas.Bool.{ne_eqb}
use Rattle.std.proofs.lemmas.List.Sums.{sum_by-cons}
use Rattle.covtable.specs.Content.{BranchValueData}
use Rattle.covtable.specs.Value.{is_taken}
use Rattle.covtable.specs.ValuesView.{branch_data}
use Rattle.covtable.specs.declared.values.BranchValue.{BranchValue}
use Rattle.covhtml.specs.Rates.{numbers}
use Rattle.covhtml.specs.Rows.{branch_cell, branches_hit, taken_item}

pub hit_seen : (branches : List BranchValue) → count_by (λ b. is_taken b.taken) branches ≡ branches_hit (map branch_data branches)
hit_seen [] = refl
hit_seen (b ∷ branches) =
    sum_by-cons (λ (x : BranchValue). cond (is_taken x.taken) 1 0) b branches
    ∙ ap (λ (n : ℕ). cond (is_taken b.taken) 1 0 + n) (hit_seen branches)
    ∙ sym (sum_by-cons (λ (y : BranchValueData). cond (is_taken y.taken) 1 0) (branch_data b) (map branch_data branches))

-- the cell of a line that has branches
pub cell_with : (branches : List BranchValueData) (found : ℕ) → found ≡ length branches → (found ≡ 0 → ⊥)
    → codes "<td title=\"taken" ++ flat_map taken_item branches ++ codes "\">" ++ numbers (branches_hit branches) (length branches) ≡ branch_cell branches
cell_with branches found is some = rw (ne_eqb (length branches) 0 (λ (e : length branches ≡ 0). some (is ∙ e))) refl

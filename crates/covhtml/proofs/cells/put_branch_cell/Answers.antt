use Rattle.std.proofs.Common.{ℕ, List, ◌++◌, length, map, codes, ap, ◌∙◌}
use Rattle.std.specs.List.{flat_map}
use Rattle.covtable.specs.Content.{BranchValueData}
use Rattle.covtable.specs.ValuesView.{branch_data}
use Rattle.covhtml.specs.Rates.{numbers}
use Rattle.covhtml.specs.Rows.{branches_hit, taken_item}
use Rattle.covhtml.proofs.Branches.{cell_with}
use Rattle.covhtml.proofs.Texts.{four}
use Rattle.covhtml.proofs.cells.put_branch_cell.Goals as goal

pub returns : goal.returns
returns g c =
    let text = g.P.Printer.text in
    let branches : List BranchValueData = map branch_data c.args.branches.now in
    let found : ℕ = c.branches_found-found.result in
    let t : List ℕ = text c.put-3.new.self in
    four (text c.args.out.now) (text c.put-2.new.self) (text c.put_taken_items.new.out) t (text c.put_numbers.new.out)
    (codes "<td title=\"taken") (flat_map taken_item branches) (codes "\">") (numbers (branches_hit branches) (length branches)) c.put-2.ensures c.put_taken_items.ensures c.put-3.ensures
    (c.put_numbers.ensures
    ∙ ap (λ (hit : ℕ). t ++ numbers hit found) c.branches_hit.ensures
    ∙ ap (λ (n : ℕ). t ++ numbers (branches_hit branches) n) c.branches_found-found.ensures)
    ∙ ap (λ (x : List ℕ). text c.args.out.now ++ x) (cell_with branches found c.branches_found-found.ensures c.if-found-eq0.false)

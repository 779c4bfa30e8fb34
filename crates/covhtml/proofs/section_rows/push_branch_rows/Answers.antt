use Rattle.std.proofs.Common.{◌++◌, ◌∷◌, [], List, length, map, ap, ◌∙◌, arith}
use Rattle.std.proofs.lemmas.List.{length-map}
use Rattle.covtable.specs.Content.{BranchValueData}
use Rattle.covtable.specs.ValuesView.{branch_data}
use Rattle.covhtml.specs.RowView.{row_data}
use Rattle.covhtml.specs.SectionRows.{branch_row}
use Rattle.covhtml.proofs.Fronts.{branch_row_put, branch_rows_end, fewer, pushed}
use Rattle.covhtml.proofs.LaterRows.{none_seen}
use Rattle.covhtml.proofs.section_rows.push_branch_rows.Goals as goal

pub loop-first-preserved : goal.loop-first-preserved
loop-first-preserved g c =
    let rows = map row_data c.loop-first.rows.items in
    branch_row_put (branch_data c.in-Some.first.now) (map branch_data c.loop-first.rest.now) (map branch_data c.in-Some.field-0-1.now) (map branch_data c.without_own-rest.result.now) rows (map row_data c.push.new.self.items) _
    (ap (map branch_data) c.in-Some.ensures.cases.0) c.without_own-rest.ensures
    (pushed row_data c.loop-first.rows.items c.push.new.self.items _ c.in_ok-push.ensures.items
    ∙ ap (λ (own : List BranchValueData). rows ++ branch_row c.in-Some.first.now.line own ∷ []) c.own_branches-own.ensures)
    c.loop-first.invariant

pub loop-first-smaller : goal.loop-first-smaller
loop-first-smaller g c =
    let less = fewer (branch_data c.in-Some.first.now) (map branch_data c.loop-first.rest.now) (map branch_data c.in-Some.field-0-1.now) (ap (map branch_data) c.in-Some.ensures.cases.0) in
    omega (arith, less, ap length c.without_own-rest.ensures, length-map c.loop-first.rest.now branch_data, length-map c.without_own-rest.result.now branch_data)

pub returns : goal.returns
returns g c =
    branch_rows_end (map branch_data c.loop-first.rest.now) (map row_data c.loop-first.rows.items) _ (none_seen branch_data c.loop-first.rest.now c.in_default.ensures.cases) c.loop-first.invariant

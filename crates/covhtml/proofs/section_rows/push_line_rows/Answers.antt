use Rattle.std.proofs.Common.{refl, map}
use Rattle.covtable.specs.ValuesView.{branch_data, line_data}
use Rattle.covhtml.specs.RowView.{row_data}
use Rattle.covhtml.specs.SectionRows.{is_before}
use Rattle.covhtml.proofs.Fronts.{front_seen, line_is, pushed, rest_fits}
use Rattle.covhtml.proofs.section_rows.push_line_rows.Goals as goal

pub slice_bounds-earlier-count : goal.slice_bounds-earlier-count
slice_bounds-earlier-count g c = rest_fits branch_data (is_before c.args.line.now.line) c.args.branches.now c.branches_from-rest.result.now c.branches_from-rest.ensures

pub returns : goal.returns
returns g c =
    line_is (line_data c.args.line.now) (map branch_data c.args.branches.now) _ (map branch_data c.own_branches-own.result.now) (map branch_data c.branches_from-rest.result.now)
    (map row_data c.args.rows.now.items) (map row_data c.push_branch_rows.new.rows.items) (map row_data c.push.new.self.items) _
    c.branches_from-rest.ensures (front_seen branch_data (is_before c.args.line.now.line) c.args.branches.now c.branches_from-rest.result.now c.branches_from-rest.ensures)
    c.own_branches-own.ensures refl c.in_ok-push_branch_rows.ensures (pushed row_data c.push_branch_rows.new.rows.items c.push.new.self.items _ c.in_ok-push.ensures.items)

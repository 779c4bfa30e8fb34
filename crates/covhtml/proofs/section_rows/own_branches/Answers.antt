use Rattle.covtable.specs.ValuesView.{branch_data}
use Rattle.covhtml.specs.SectionRows.{is_of}
use Rattle.covhtml.proofs.Fronts.{front_seen, rest_fits}
use Rattle.covhtml.proofs.section_rows.own_branches.Goals as goal

pub slice_bounds-result-count : goal.slice_bounds-result-count
slice_bounds-result-count c = rest_fits branch_data (is_of c.args.line) c.args.branches.now c.without_own.result.now c.without_own.ensures

pub returns : goal.returns
returns c = front_seen branch_data (is_of c.args.line) c.args.branches.now c.without_own.result.now c.without_own.ensures

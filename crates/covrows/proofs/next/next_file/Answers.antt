use Rattle.std.proofs.Common.{map, option_map, sym, ◌∙◌}
use Rattle.std.specs.Cmp.Lexicographic.{slice_cmp}
use Rattle.std.specs.Ordering.{nat_cmp}
use Rattle.covrows.specs.Above.{least_of}
use Rattle.covrows.specs.Data.{row_data}
use Rattle.covtable.proofs.Orders.{names_order}
use Rattle.covrows.proofs.Least.{next_least}
use Rattle.covrows.proofs.Walks.{none_left}
use Rattle.covrows.proofs.next.next_file.Goals as goal

pub returns : goal.returns
returns g c =
    let last = option_map (λ file. file.now) c.args.last in
    let least = option_map (λ file. file.now) c.loop-row.least in
    next_least (slice_cmp nat_cmp) names_order last (map (λ row. row.file) (map row_data c.args.rows.now)) least
    (sym (none_left row_data c.args.rows.now c.loop-row.row-index (λ rs. least_of (slice_cmp nat_cmp) last least (map (λ row. row.file) (map row_data rs))) c.loop-row-test.false) ∙ c.loop-row.invariant)

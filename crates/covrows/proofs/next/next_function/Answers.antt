use Rattle.std.proofs.Common.{[], map, option_map, refl, sym, ◌∙◌, subst}
use Rattle.std.specs.List.{flat_map}
use Rattle.std.specs.Cmp.Lexicographic.{slice_cmp}
use Rattle.std.specs.Ordering.{nat_cmp}
use Rattle.covdata.specs.Points.{func_point}
use Rattle.covrows.specs.Above.{IsNextAbove, least_of}
use Rattle.covrows.specs.Data.{at_key, key_data, row_data}
use Rattle.covtable.proofs.Orders.{names_order}
use Rattle.covrows.proofs.Least.{next_least}
use Rattle.covrows.proofs.Walks.{flat_at_key, least_step, none_left}
use Rattle.covrows.proofs.next.next_function.Goals as goal

pub loop-row-preserved : goal.loop-row-preserved
loop-row-preserved g c =
    least_step row_data c.args.rows.now c.loop-row.row-index c.row-item.result c.loop-row-test.true c.row-item.is (λ name. name.now) (slice_cmp nat_cmp) (λ a b. refl) (at_key func_point [] (key_data c.args.key)) c.args.last c.loop-row.least c.function_of.result c.lesser_if-least.result _ c.function_of.ensures c.lesser_if-least.ensures c.loop-row.invariant

pub returns : goal.returns
returns g c =
    let own = at_key func_point [] (key_data c.args.key) in
    let rows = map row_data c.args.rows.now in
    let last = (option_map (λ name. name.now) c.args.last) in
    let least = (option_map (λ name. name.now) c.loop-row.least) in
    subst (λ points. IsNextAbove (slice_cmp nat_cmp) last points least) (flat_at_key func_point (key_data c.args.key) rows)
    (next_least (slice_cmp nat_cmp) names_order last (flat_map own rows) least
    (sym (none_left row_data c.args.rows.now c.loop-row.row-index (λ rs. least_of (slice_cmp nat_cmp) last least (flat_map own (map row_data rs))) c.loop-row-test.false) ∙ c.loop-row.invariant))

use Rattle.std.proofs.Common.{◌++◌, [], map, sym, ap, ◌∙◌}
use Rattle.std.specs.Prelude.{option_to_list}
use Rattle.std.specs.List.{flat_map}
use Rattle.covdata.specs.PointView.{branch_point_data}
use Rattle.covtable.specs.Value.{sum_if_any, taken_said}
use Rattle.covrows.specs.Data.{at_key, key_data, row_data}
use Rattle.covrows.proofs.Walks.{flat_at_key, none_left, sum_if_step, sum_own}
use Rattle.covrows.proofs.values.branch_value.Goals as goal

pub loop-row-preserved : goal.loop-row-preserved
loop-row-preserved g c = record {
  sum =
      sum_if_step row_data c.args.rows.now c.loop-row.row-index c.row-item.result c.loop-row-test.true c.row-item.is (at_key (taken_said (branch_point_data c.args.point)) [] (key_data c.args.key)) c.loop-row.sum c.taken_said.result c.sum_if_any-sum.result _
      c.taken_said.ensures c.sum_if_any-sum.ensures c.loop-row.invariant.sum;
  own = sum_own c.loop-row.sum c.taken_said.result c.sum_if_any-sum.result c.sum_if_any-sum.ensures;
}

pub returns : goal.returns
returns g c =
    let said = taken_said (branch_point_data c.args.point) in
    let own = at_key said [] (key_data c.args.key) in
    let rows = map row_data c.args.rows.now in
    sym c.loop-row.invariant.own
    ∙ sym (none_left row_data c.args.rows.now c.loop-row.row-index (λ rs. sum_if_any (option_to_list c.loop-row.sum ++ flat_map own (map row_data rs))) c.loop-row-test.false)
    ∙ c.loop-row.invariant.sum
    ∙ ap sum_if_any (flat_at_key said (key_data c.args.key) rows)

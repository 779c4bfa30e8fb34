use Rattle.std.proofs.Common.{ℕ, ◌++◌, [], map, sym, ap, ◌∙◌}
use Rattle.std.specs.Prelude.{Option, option_to_list, unwrap_or}
use Rattle.std.specs.List.{flat_map}
use Rattle.covdata.specs.Points.{least}
use Rattle.covtable.specs.Value.{start_said}
use Rattle.covrows.specs.Data.{at_key, key_data, row_data}
use Rattle.covrows.proofs.Walks.{flat_at_key, least_one, none_left, least_start_step}
use Rattle.covrows.proofs.values.function_start.Goals as goal

pub loop-row-preserved : goal.loop-row-preserved
loop-row-preserved g c =
    least_start_step row_data c.args.rows.now c.loop-row.row-index c.row-item.result c.loop-row-test.true c.row-item.is (at_key (start_said c.args.name.now) [] (key_data c.args.key)) c.loop-row.least c.start_said.result c.lesser_start-least.result _
    c.start_said.ensures c.lesser_start-least.ensures c.loop-row.invariant

pub returns : goal.returns
returns g c =
    let own = at_key (start_said c.args.name.now) [] (key_data c.args.key) in
    let rows = map row_data c.args.rows.now in
    c.unwrap_or.ensures
    ∙ ap (λ (o : Option ℕ). unwrap_or o 0) (sym (least_one c.loop-row.least)
    ∙ sym (none_left row_data c.args.rows.now c.loop-row.row-index (λ rs. least (option_to_list c.loop-row.least ++ flat_map own (map row_data rs))) c.loop-row-test.false)
    ∙ c.loop-row.invariant
    ∙ ap least (flat_at_key (start_said c.args.name.now) (key_data c.args.key) rows))

use Rattle.std.proofs.Common.{ℕ, ◌+◌, map, ap, ◌∙◌, arith}
use Rattle.std.specs.List.{sum_by}
use Rattle.covrows.specs.Data.{at_key, key_data, row_data}
use Rattle.covtable.specs.Value.{bounded, line_added}
use Rattle.covrows.proofs.Walks.{none_left, sum_at_key, sum_step}
use Rattle.covrows.proofs.values.line_value.Goals as goal

pub loop-row-preserved : goal.loop-row-preserved
loop-row-preserved g c = record {
  sum =
      sum_step row_data c.args.rows.now c.loop-row.row-index c.row-item.result c.loop-row-test.true c.row-item.is (at_key (line_added c.args.line) 0 (key_data c.args.key)) c.loop-row.sum c.saturating_add-sum.result _
      (c.saturating_add-sum.ensures ∙ ap (λ (n : ℕ). bounded (c.loop-row.sum + n)) c.line_added.ensures) c.loop-row.invariant.sum;
  own = omega (arith, c.saturating_add-sum.ensures);
}

pub returns : goal.returns
returns g c =
    let own = at_key (line_added c.args.line) 0 (key_data c.args.key) in
    let last = none_left row_data c.args.rows.now c.loop-row.row-index (λ rs. sum_by own (map row_data rs)) c.loop-row-test.false in
    omega (arith, last, c.loop-row.invariant.sum, c.loop-row.invariant.own, sum_at_key (line_added c.args.line) (key_data c.args.key) (map row_data c.args.rows.now))

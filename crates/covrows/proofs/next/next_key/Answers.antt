use Rattle.std.proofs.Common.{map, option_map, sym, ◌∙◌}
use Rattle.covtable.specs.Value.{key_cmp, key_of_row}
use Rattle.covrows.specs.Above.{least_of}
use Rattle.covrows.specs.Data.{key_data, row_data}
use Rattle.covtable.proofs.Orders.{keys_order}
use Rattle.covrows.proofs.Least.{next_least}
use Rattle.covrows.proofs.Walks.{none_left}
use Rattle.covrows.proofs.next.next_key.Goals as goal

pub returns : goal.returns
returns g c =
    let last = option_map key_data c.args.last in
    let least = option_map key_data c.loop-row.least in
    next_least key_cmp keys_order last (map key_of_row (map row_data c.args.rows.now)) least
    (sym (none_left row_data c.args.rows.now c.loop-row.row-index (λ rs. least_of key_cmp last least (map key_of_row (map row_data rs))) c.loop-row-test.false) ∙ c.loop-row.invariant)

use Rattle.std.proofs.Common.{◌++◌, List, map, sym, ap, append-nil, ◌∙◌}
use Rattle.std.proofs.lemmas.List.{drop_all}
use Rattle.covdata.specs.Row.{ItemData, Row, item_data, rows_of_sect}
use Rattle.covrows.specs.Data.{row_data}
use Rattle.covrows.proofs.copies.push_sect.Goals as goal

pub returns : goal.returns
returns g c =
    let rows_with : List ItemData → List Row = λ items. rows_of_sect (record { test = c.args.sect.now.test; file = c.args.sect.now.file; items = items }) in
    let rows = map row_data c.loop-item.rows.items in
    sym (append-nil rows)
    ∙ sym (ap (λ rest. rows ++ rows_with (map item_data rest)) (drop_all c.loop-item.item-index c.get-items.result.now c.loop-item-test.false))
    ∙ c.loop-item.invariant
    ∙ ap (λ items. map row_data c.args.rows.now.items ++ rows_with items) c.get-items.ensures.items

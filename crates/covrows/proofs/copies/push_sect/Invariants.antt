use Rattle.std.specs.Prelude.{◌≡◌, ◌++◌, List, drop, map}
use Rattle.covdata.specs.Row.{ItemData, Row, item_data, rows_of_sect}
use Rattle.covrows.specs.Data.{row_data}
use Rattle.covrows.proofs.copies.push_sect.Given as goal

-- the rows so far, and those that are left
abbrev pub invariant-loop-item : goal.invariant-loop-item
invariant-loop-item g l =
    let rows_with : List ItemData → List Row = λ items. rows_of_sect (record { test = l.sect.test; file = l.sect.file; items = items }) in
    map row_data l.rows.items ++ rows_with (map item_data (drop l.item-index l.items)) ≡ map row_data l.initial.rows.items ++ rows_with (map item_data l.items)

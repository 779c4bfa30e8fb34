-- A `Row`, seen as plain data.
use Rattle.std.specs.Prelude.{map}
use Rattle.covtable.specs.ValuesView.{branch_data}
use Rattle.covhtml.specs.declared.rows.Row.{Row}
use Rattle.covhtml.specs.Rows.{RowData}

abbrev pub row_data : Row → RowData
row_data row = record { number = row.number; count = row.count; branches = map branch_data row.branches.now }

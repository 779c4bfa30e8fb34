use Rattle.covrows.specs.Data.{row_data}
use Rattle.covtable.specs.Renamed.{renamed_row}
use Rattle.std.specs.Prelude.{◌≡◌, ◌++◌, drop, map}
use Rattle.covrows.proofs.copies.renamed_rows.Given as goal

-- the rows so far, and those that are left
abbrev pub invariant-loop-row : goal.invariant-loop-row
invariant-loop-row g l = map row_data l.renamed.items ++ map (renamed_row l.old l.new) (map row_data (drop l.row-index l.rows)) ≡ map (renamed_row l.old l.new) (map row_data l.rows)

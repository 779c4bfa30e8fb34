use Rattle.covdata.specs.Row.{rows_of_sect}
use Rattle.covdata.specs.SectView.{sect_data}
use Rattle.covrows.specs.Data.{row_data}
use Rattle.std.specs.List.{flat_map}
use Rattle.std.specs.Prelude.{◌≡◌, ◌++◌, drop, map}
use Rattle.covrows.proofs.copies.push_sects.Given as goal

-- the rows so far, and those that are left
abbrev pub invariant-loop-sect : goal.invariant-loop-sect
invariant-loop-sect g l = map row_data l.rows.items ++ flat_map rows_of_sect (map sect_data (drop l.sect-index l.sects)) ≡ map row_data l.initial.rows.items ++ flat_map rows_of_sect (map sect_data l.sects)

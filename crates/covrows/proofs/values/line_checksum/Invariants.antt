use Rattle.covrows.specs.Data.{key_data, row_data}
use Rattle.covtable.specs.Value.{items_at, line_checksum}
use Rattle.std.specs.Prelude.{◌≡◌, drop, map}
use Rattle.covrows.proofs.values.line_checksum.Given as goal

-- no row so far gives a checksum, so the further rows decide the result
abbrev pub invariant-loop-row : goal.invariant-loop-row
invariant-loop-row g l = line_checksum l.line (items_at (key_data l.key) (map row_data (drop l.row-index l.rows))) ≡ line_checksum l.line (items_at (key_data l.key) (map row_data l.rows))

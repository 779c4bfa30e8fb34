use Rattle.covrows.specs.Data.{checksum_data, row_data}
use Rattle.covtable.specs.Clash.{checksums_in, differs}
use Rattle.std.specs.List.{find}
use Rattle.std.specs.Prelude.{◌≡◌, drop, map}
use Rattle.covrows.proofs.clash.differing.Given as goal

-- no checksum so far differs, so the further rows decide the result
abbrev pub invariant-loop-row : goal.invariant-loop-row
invariant-loop-row g l = find (differs (checksum_data l.given)) (checksums_in (map row_data (drop l.row-index l.rows))) ≡ find (differs (checksum_data l.given)) (checksums_in (map row_data l.rows))

use Rattle.covrows.specs.Data.{row_data}
use Rattle.covtable.specs.Clash.{clash_of}
use Rattle.std.specs.Prelude.{◌≡◌, drop, map, take}
use Rattle.covrows.proofs.clash.first_clash.Given as goal

-- no row so far clashes, so the further rows decide the result
abbrev pub invariant-loop-at : goal.invariant-loop-at
invariant-loop-at g l = clash_of (map row_data (take l.at l.rows)) (map row_data (drop l.at l.rows)) ≡ clash_of (map row_data (take l.from l.rows)) (map row_data (drop l.from l.rows))

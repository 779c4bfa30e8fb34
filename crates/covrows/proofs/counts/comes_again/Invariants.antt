use Rattle.std.specs.Prelude.{◌≡◌, ◌&&◌, Bool, drop, map}
use Rattle.std.specs.List.{list_any}
use Rattle.covdata.specs.Row.{Row}
use Rattle.covrows.specs.Counted.{is_selected, same_points, takes}
use Rattle.covrows.specs.Data.{row_data}
use Rattle.covrows.proofs.counts.comes_again.Given as goal

-- the point doesn't come so far, so the further rows decide the result
abbrev pub invariant-loop-other : goal.invariant-loop-other
invariant-loop-other g l =
    let again : Row → Bool = λ other. takes (is_selected l.selection) l.kind l.hit other && same_points (row_data l.row) other in
    list_any again (map row_data (drop l.other-index l.rows)) ≡ list_any again (map row_data l.rows)

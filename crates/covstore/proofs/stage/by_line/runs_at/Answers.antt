use Rattle.std.proofs.Common.{sym, ap, ◌∙◌}
use Rattle.std.specs.Prelude.{option_map}
use Rattle.covpacked.specs.ItemRefs.{item_ref_data}
use Rattle.covstore.specs.RunsView.{runs_seen}
use Rattle.covstore.specs.declared.stage.by_line.Spot.{Spot}
use Rattle.covstore.proofs.AddsOrder.{none_at_spot, run_at_spot}
use Rattle.covstore.proofs.stage.by_line.runs_at.Goals as goal
use Rattle.covstore.proofs.stage.by_line.runs_at.Goals.{in-Some+in_ok-take, in_default}

pub loop-spot-preserved : goal.loop-spot-preserved
loop-spot-preserved g c =
    let items = c.args.items.now in
    let spots = c.args.spots.now in
    let l = c.loop-spot in
    let first : Spot = record { line = 0; index = 0 } in
    elim c.match-get.branch [
      | in-Some+in_ok-take w ↦
          rw w.runs-is
          (run_at_spot items spots l.spot-index first c.loop-spot-test.true (item_ref_data w.in-Some.item) (sym c.get.ensures ∙ ap (option_map item_ref_data) w.in-Some.is)
          (runs_seen l.runs) (runs_seen w.take.new.self) l.invariant w.in_ok-take.ensures)
      | in_default w ↦
          rw w.runs-is
          (none_at_spot items spots l.spot-index first c.loop-spot-test.true (sym c.get.ensures ∙ ap (option_map item_ref_data) w.in_default.is) (runs_seen l.runs) l.invariant)
    ]

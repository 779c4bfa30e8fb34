use Rattle.covstore.proofs.Words.{◌<◌, ap, arith, length, sym, ◌∙◌, at_spots}
use Rattle.std.specs.Prelude.{option_map}
use Rattle.covpacked.specs.ItemRefs.{item_ref_data}
use Rattle.covstore.proofs.AddsOrder.{got_within, spot_got}
use Rattle.covstore.proofs.stage.by_line.spots_of.Goals as goal
use Rattle.covstore.proofs.stage.by_line.spots_of.Goals.{in-Some+in_ok-push, in_default}

pub loop-index-preserved : goal.loop-index-preserved
loop-index-preserved g c =
    let items = c.args.items.now in
    let l = c.loop-index in
    let within : l.index < length items = omega (arith, c.loop-index-test.true, c.len-index-end.ensures) in
    elim c.match-get.branch [
      | in-Some+in_ok-push w ↦
          ap (λ v. at_spots items v.items) w.spots-is ∙ ap (at_spots items) w.in_ok-push.ensures.items
          ∙ spot_got items l.spots.items (record { line = w.line_of.result; index = l.index }) (item_ref_data w.in-Some.item) within (sym c.get.ensures ∙ ap (option_map item_ref_data) w.in-Some.is) l.invariant
      | in_default w ↦ absurd (got_within items l.index within (sym c.get.ensures ∙ ap (option_map item_ref_data) w.in_default.is))
    ]

use Rattle.covstore.proofs.Words.{◌∷◌, [], ◌++◌, List, sym, ap, ◌∙◌, append_assoc, ItemData, runs_with}
use Rattle.covpacked.specs.ItemRefs.{item_ref_data}
use Rattle.covstore.proofs.RunsSums.{runs_more}
use Rattle.covstore.proofs.runs.runs_in.Goals as goal

pub loop-item-preserved : goal.loop-item-preserved
loop-item-preserved g c =
    let h = c.loop-item.invariant in
    let item = item_ref_data c.in-Some.item in (
      h.0 ++ item ∷ [],
      c.in_ok-take.ensures ∙ ap (runs_with item) h.1 ∙ sym (runs_more h.0 item),
      append_assoc h.0 (item ∷ []) c.next.new.self ∙ ap (λ (rest : List ItemData). h.0 ++ rest) (sym c.in-Some.ensures.steps) ∙ h.2,
    )

use Rattle.covstore.proofs.RunsAdds.{HasTakenTo}
use Rattle.covstore.proofs.stage.section.stage_each.Given as goal

abbrev pub invariant-loop-item : goal.invariant-loop-item
invariant-loop-item g l = HasTakenTo (λ items. items) l.items l.item-iterator l.initial.test l.initial.index l.test l.index

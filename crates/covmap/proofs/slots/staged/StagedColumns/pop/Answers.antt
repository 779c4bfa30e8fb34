use Rattle.covmap.proofs.MapCommits.{seen_front}
use Rattle.covmap.proofs.slots.staged.StagedColumns.pop.Goals as goal

pub invariant_of-self : goal.invariant_of-self
invariant_of-self g c = seen_front (λ column. (column.0, column.1.items)) c.self.inside.columns.items c.pop_last.new.list.items _ c.pop_last.ensures.items c.self.invariant

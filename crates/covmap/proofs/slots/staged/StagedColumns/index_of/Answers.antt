use Rattle.covmap.proofs.StagedTouch.{number_leads}
use Rattle.covmap.proofs.slots.staged.StagedColumns.index_of.Goals as goal

pub returns-then-has : goal.returns-then-has
returns-then-has g c = number_leads c.args.self.now c.args.page c.saturating_sub-last.result c.has.ensures.ascending (c.has.ensures.there.0 c.if-has.true)

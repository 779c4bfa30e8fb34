use Rattle.covmap.proofs.SlotWrites.{not_there}
use Rattle.std.proofs.Common.{◌∙◌}
use Rattle.covmap.proofs.StagedReads.{value_there, value_own}
use Rattle.covmap.proofs.slots.staged.StagedColumns.value_at.Goals as goal

pub returns-then-has : goal.returns-then-has
returns-then-has g c =
    value_there c.args.slots.now c.args.self.now c.args.place.page c.index_of-index.result c.args.place.index c.requires.page c.index_of-index.ensures c.value_of.result c.requires.columns
    (c.has.ensures.there.0 c.if-has.true) c.value_of.ensures

pub returns : goal.returns
returns g c =
    c.value_at.ensures
    ∙ value_own c.args.slots.now c.args.self.now c.args.place.page c.index_of-index.result c.args.place.index c.requires.page c.index_of-index.ensures c.has.ensures.ascending
    (not_there c.has.result c.has.ensures.there c.if-has.false)

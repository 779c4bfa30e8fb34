use Rattle.std.proofs.Common.{◌∙◌, sym}
use Rattle.covmap.specs.Query.{query_by_order}
use Rattle.covmap.specs.SlotPlace.{at}
use Rattle.covmap.proofs.SlotAfter.{gap_after_slot}
use Rattle.covmap.proofs.slots.Slots.find_after.Goals as goal

pub returns-in-Greater-clause-absent : goal.returns-in-Greater-clause-absent
returns-in-Greater-clause-absent g c =
    gap_after_slot (query_by_order g.K.Key.total (g.Q.Query.named c.args.query)) c.args.self.now c.args.place.page c.args.place.index (at c.following-next.result) c.following-next.ensures.whole
    c.requires c.following-next.ensures.next (sym c.compare_at.ensures.order ∙ c.in-Greater.is)

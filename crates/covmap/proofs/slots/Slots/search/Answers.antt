use Rattle.std.proofs.Common.{◌∙◌, ap, sym}
use Rattle.std.specs.Ordering.{is_eq}
use Rattle.covmap.specs.Query.{query_by_order}
use Rattle.covmap.specs.SlotPlace.{at}
use Rattle.covmap.proofs.SlotPages.{whole}
use Rattle.covmap.proofs.SlotSearch.{gap_at_cut}
use Rattle.covmap.proofs.SlotAfter.{not_equal}
use Rattle.covmap.proofs.slots.Slots.search.Goals as goal

pub returns-clause-absent : goal.returns-clause-absent
returns-clause-absent g c =
    let place = c.cut-place.result in
    gap_at_cut (query_by_order g.K.Key.total (g.Q.Query.named c.args.query)) c.args.self.now (at place) c.cut-place.ensures.whole.ascending (whole c.args.self.now place.page place.index) c.cut-place.ensures.cut
    (not_equal _ (sym (ap is_eq c.compare_at.ensures.order) ∙ sym c.is_eq.ensures ∙ c.if-is_eq.false))

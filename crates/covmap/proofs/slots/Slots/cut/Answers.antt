use Rattle.std.proofs.Common.{ℕ, ap, subst}
use Rattle.covmap.specs.Query.{query_by_order}
use Rattle.covmap.specs.Slots.{IsCut, is_before, lead}
use Rattle.covmap.proofs.SlotSearch.{is_cut}
use Rattle.covmap.proofs.slots.Slots.cut.Goals as goal

pub returns-in-Some-clause-cut : goal.returns-in-Some-clause-cut
returns-in-Some-clause-cut g c =
    rw (c.index_of-index.ensures, ← c.in-Some.ensures.some, c.page_of-page.ensures)
    (is_cut (query_by_order g.K.Key.total (g.Q.Query.named c.args.query)) c.args.self.now c.page.ensures.whole.ascending)

pub returns-in-None-clause-cut : goal.returns-in-None-clause-cut
returns-in-None-clause-cut g c =
    let order = λ (key : g.row.K.Denot). g.K.Key.cmp key (g.Q.Query.named c.args.query) in
    subst (λ (index : ℕ). IsCut order c.args.self.now (c.page_of-page.result, index)) (ap (lead (is_before order)) c.in-None.ensures.none)
    (rw c.page_of-page.ensures (is_cut (query_by_order g.K.Key.total (g.Q.Query.named c.args.query)) c.args.self.now c.page.ensures.whole.ascending))

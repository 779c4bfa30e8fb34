use Rattle.std.proofs.Common.{◌∙◌}
use Rattle.covlock.proofs.Closed.{closed}
use Rattle.covlock.proofs.shared_state.SharedState.close.Goals as goal

-- all seats are back, so the merged share has every part, and its amount is the total
pub returns-clause-gathered : goal.returns-clause-gathered
returns-clause-gathered g c =
    let inside = c.self.inside in
    let to = c.give_shares.new.to in
    (closed c.give_shares.result inside.book.entries c.copy.result c.args.self c.args.seats g.L.Ledger.parts inside.rest.parts to.parts inside.rest.amount to.amount inside.count.total c.self.view_is
    (c.copy.ensures ∙ c.close-news.ensures ∙ c.self.invariant.all_published) c.give_shares.ensures.news c.requires c.give_shares.ensures.logs c.self.invariant.no_amount c.self.invariant.no_part c.give_shares.ensures.parts
    c.give_shares.ensures.few c.self.invariant.few c.audit.ensures.whole c.self.invariant.counted).gathered

pub returns-clause-calls : goal.returns-clause-calls
returns-clause-calls g c =
    let inside = c.self.inside in
    let to = c.give_shares.new.to in
    (closed c.give_shares.result inside.book.entries c.copy.result c.args.self c.args.seats g.L.Ledger.parts inside.rest.parts to.parts inside.rest.amount to.amount inside.count.total c.self.view_is
    (c.copy.ensures ∙ c.close-news.ensures ∙ c.self.invariant.all_published) c.give_shares.ensures.news c.requires c.give_shares.ensures.logs c.self.invariant.no_amount c.self.invariant.no_part c.give_shares.ensures.parts
    c.give_shares.ensures.few c.self.invariant.few c.audit.ensures.whole c.self.invariant.counted).calls

pub returns-clause-seen : goal.returns-clause-seen
returns-clause-seen g c =
    let inside = c.self.inside in
    let to = c.give_shares.new.to in
    (closed c.give_shares.result inside.book.entries c.copy.result c.args.self c.args.seats g.L.Ledger.parts inside.rest.parts to.parts inside.rest.amount to.amount inside.count.total c.self.view_is
    (c.copy.ensures ∙ c.close-news.ensures ∙ c.self.invariant.all_published) c.give_shares.ensures.news c.requires c.give_shares.ensures.logs c.self.invariant.no_amount c.self.invariant.no_part c.give_shares.ensures.parts
    c.give_shares.ensures.few c.self.invariant.few c.audit.ensures.whole c.self.invariant.counted).seen

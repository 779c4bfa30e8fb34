use Rattle.std.proofs.Common.{◌∙◌, ap, refl, length, ◌-◌}
use Rattle.std.specs.Prelude.{slice_get}
use Rattle.std.specs.Ordering.{is_lt}
use Rattle.covmap.specs.Slots.{ends_before}
use Rattle.covmap.proofs.PageParts.{beside_last}
use Rattle.covmap.proofs.slots.page.Page.ends_before.Goals as goal

pub returns-in-Some : goal.returns-in-Some
returns-in-Some g c =
    let order = λ (key : g.row.K.Denot). g.K.Key.cmp key (g.Q.Query.named c.args.query) in
    c.is_lt.ensures
    ∙ ap is_lt c.compare.ensures
    ∙ beside_last order c.self.inside.keys.items c.self.inside.values.items _ c.in-Some.key.now refl (c.in-Some.ensures.value ∙ ap (λ keys. slice_get keys (length keys - 1)) c.deref.ensures.value)
    ∙ ap (ends_before order) c.self.view_is

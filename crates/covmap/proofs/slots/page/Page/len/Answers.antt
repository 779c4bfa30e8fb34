use Rattle.std.proofs.Common.{◌∙◌, ap, length, sym}
use Rattle.covmap.proofs.PageParts.{beside_length}
use Rattle.covmap.proofs.slots.page.Page.len.Goals as goal

pub returns : goal.returns
returns g c =
    let keys = c.self.inside.keys in
    c.len.ensures ∙ keys.ok.0 ∙ sym (beside_length keys.items c.self.inside.values.items) ∙ ap length c.self.view_is

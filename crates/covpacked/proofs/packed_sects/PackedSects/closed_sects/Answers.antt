use Rattle.std.proofs.Common.{length, ap, sym, ◌∙◌}
use Rattle.covpacked.specs.PackedView.{PackedData, items_of}
use Rattle.covpacked.proofs.Lasts.{as_many_closed}
use Rattle.covpacked.proofs.packed_sects.PackedSects.closed_sects.Goals as goal

pub returns : goal.returns
returns g c =
    let own = c.self.inside in
    c.len.ensures ∙ own.sects.ok.0 ∙ sym (as_many_closed own.texts.items (items_of own.numbers.items own.texts.items own.words.items) own.sects.items) ∙ ap (λ (d : PackedData). length d.sects) c.self.view_is

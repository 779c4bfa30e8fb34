use Rattle.std.proofs.Common.{◌∙◌, ap, sym}
use Rattle.covdata.specs.Row.{items_in}
use Rattle.covpacked.specs.PackedView.{PackedData, items_of}
use Rattle.covpacked.proofs.Closes.{closed_count}
use Rattle.covpacked.proofs.Packeds.{few_items}
use Rattle.covpacked.proofs.packed_sects.PackedSects.closed_len.Goals as goal

pub returns : goal.returns
returns g c =
    let own = c.self.inside in
    c.self.invariant.all
    ∙ sym (closed_count own.texts.items (items_of own.numbers.items own.texts.items own.words.items) own.sects.items (few_items own.numbers.items own.texts.items own.words.items own.sects.items own.closed c.self.invariant))
    ∙ ap (λ (d : PackedData). items_in d.sects) c.self.view_is

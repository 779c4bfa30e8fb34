use Rattle.std.proofs.Common.{◌∙◌, ap}
use Rattle.covpacked.specs.PackedView.{PackedData}
use Rattle.covpacked.proofs.Removes.{emptied_ok, emptied_sects}
use Rattle.covpacked.proofs.packed_sects.PackedSects.forget.Goals as goal

pub invariant_of-self : goal.invariant_of-self
invariant_of-self g c =
    let before = c.self.inside in
    emptied_ok before.numbers.items before.texts.items before.words.items before.sects.items before.closed c.self.invariant c.truncate.new.self.items c.truncate.ensures.items

pub returns-clause-sects : goal.returns-clause-sects
returns-clause-sects g c =
    let before = c.self.inside in
    emptied_sects before.numbers.items before.texts.items before.words.items before.sects.items before.closed c.self.invariant c.truncate.new.self.items c.truncate.ensures.items
    ∙ ap (λ (d : PackedData). d.sects) c.self.view_is

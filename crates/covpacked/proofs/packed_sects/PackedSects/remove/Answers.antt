use Rattle.std.proofs.Common.{◌∙◌, ap}
use Rattle.covpacked.specs.OpenItems.{left}
use Rattle.covpacked.specs.PackedView.{PackedData}
use Rattle.covpacked.proofs.Removes.{removed_items, removed_ok, removed_sects}
use Rattle.covpacked.proofs.packed_sects.PackedSects.remove.Goals as goal

pub invariant_of-self : goal.invariant_of-self
invariant_of-self g c =
    let before = c.self.inside in
    removed_ok before.numbers.items before.texts.items before.words.items before.sects.items before.closed c.self.invariant c.args.places.now c.remove_words.new.words.items c.remove_words.ensures

pub returns-clause-sects : goal.returns-clause-sects
returns-clause-sects g c =
    let before = c.self.inside in
    removed_sects before.numbers.items before.texts.items before.words.items before.sects.items before.closed c.self.invariant c.args.places.now c.remove_words.new.words.items c.remove_words.ensures
    ∙ ap (λ (d : PackedData). d.sects) c.self.view_is

pub returns-clause-items : goal.returns-clause-items
returns-clause-items g c =
    let before = c.self.inside in
    removed_items before.numbers.items before.texts.items before.words.items before.sects.items before.closed c.self.invariant c.args.places.now c.remove_words.new.words.items c.remove_words.ensures
    ∙ ap (λ (d : PackedData). left 0 c.args.places.now d.items) c.self.view_is

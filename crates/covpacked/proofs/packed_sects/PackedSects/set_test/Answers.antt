use Rattle.std.proofs.Common.{◌∙◌, ap, arith, refl}
use Rattle.covpacked.specs.NewNames.{test_set}
use Rattle.covpacked.specs.PackedView.{PackedData, items_of}
use Rattle.covpacked.proofs.Closes.{named_data, on_err_any}
use Rattle.covpacked.proofs.Renames.{closed_within, replaced_ok, test_named}
use Rattle.covpacked.proofs.packed_sects.PackedSects.set_test.Goals as goal

pub returns-in_err-test-clause-same : goal.returns-in_err-test-clause-same
returns-in_err-test-clause-same g c =
    let before = c.self.inside in
    on_err_any c.from_residual.result (ap (λ (d : PackedData). d.sects)
    (named_data before.numbers.items before.texts.items before.words.items before.sects.items before.closed c.self.invariant c.append_text.new.texts.items c.append_text.ensures.grows ∙ c.self.view_is))

pub returns-in_err-test-clause-items : goal.returns-in_err-test-clause-items
returns-in_err-test-clause-items g c =
    let before = c.self.inside in
    ap (λ (d : PackedData). d.items)
    (named_data before.numbers.items before.texts.items before.words.items before.sects.items before.closed c.self.invariant c.append_text.new.texts.items c.append_text.ensures.grows ∙ c.self.view_is)

pub index-requires : goal.index-requires
index-requires g c =
    let before = c.self.inside in
    let within = closed_within before.numbers.items before.texts.items before.words.items before.sects.items before.closed c.args.self.now c.self.view_is c.args.index c.requires in
    omega (arith, within, before.sects.ok.0)

pub index_mut-requires : goal.index_mut-requires
index_mut-requires g c =
    let before = c.self.inside in
    let within = closed_within before.numbers.items before.texts.items before.words.items before.sects.items before.closed c.args.self.now c.self.view_is c.args.index c.requires in
    omega (arith, within, before.sects.ok.0)

pub invariant_of-self-2 : goal.invariant_of-self-2
invariant_of-self-2 g c =
    let before = c.self.inside in
    let within = closed_within before.numbers.items before.texts.items before.words.items before.sects.items before.closed c.args.self.now c.self.view_is c.args.index c.requires in
    replaced_ok before.numbers.items before.texts.items before.words.items before.sects.items before.closed c.self.invariant c.append_text.new.texts.items c.append_text.ensures.grows
    c.args.index c.index.result.now _ within c.index.ensures refl (λ has. record { test = c.in_ok-test.ensures.ok.fits; file = has.file })

pub returns-clause-sects : goal.returns-clause-sects
returns-clause-sects g c =
    let before = c.self.inside in
    let within = closed_within before.numbers.items before.texts.items before.words.items before.sects.items before.closed c.args.self.now c.self.view_is c.args.index c.requires in
    test_named c.append_text.new.texts.items c.index.result.now c.in_ok-test.test c.args.test.now c.in_ok-test.ensures.ok.is
    (items_of before.numbers.items c.append_text.new.texts.items before.words.items) before.sects.items c.args.index within c.index.ensures
    ∙ ap (λ (d : PackedData). test_set c.args.index c.args.test.now d.sects)
    (named_data before.numbers.items before.texts.items before.words.items before.sects.items before.closed c.self.invariant c.append_text.new.texts.items c.append_text.ensures.grows ∙ c.self.view_is)

pub returns-clause-items : goal.returns-clause-items
returns-clause-items g c =
    let before = c.self.inside in
    ap (λ (d : PackedData). d.items)
    (named_data before.numbers.items before.texts.items before.words.items before.sects.items before.closed c.self.invariant c.append_text.new.texts.items c.append_text.ensures.grows ∙ c.self.view_is)

use Rattle.std.proofs.Common.{◌∙◌, ap, [], ◌∷◌, ◌++◌}
use Rattle.covdata.specs.Row.{ItemData}
use Rattle.covpacked.specs.PackedView.{PackedData}
use Rattle.covpacked.specs.Words.{item_of_parts}
use Rattle.covpacked.proofs.Packeds.{appended_item, appended_ok, appended_sects, not_appended, on_err_then, on_ok_then, plain_end, plain_item}
use Rattle.covpacked.proofs.packed_sects.PackedSects.push_plain.Goals as goal

pub invariant_of-self : goal.invariant_of-self
invariant_of-self g c =
    let before = c.self.inside in
    appended_ok before.numbers.items before.texts.items before.words.items before.sects.items before.closed c.self.invariant c.args.parts c.append.new.numbers.items c.append.new.words.items
    (plain_end before.texts.items c.args.parts c.requires) c.append.ensures.numbers c.append.result c.append.ensures.ok c.append.ensures.err

pub returns-clause-sects : goal.returns-clause-sects
returns-clause-sects g c =
    let before = c.self.inside in
    appended_sects before.numbers.items before.texts.items before.words.items before.sects.items before.closed c.self.invariant c.args.parts c.append.new.numbers.items c.append.new.words.items
    (plain_end before.texts.items c.args.parts c.requires) c.append.ensures.numbers c.append.result c.append.ensures.ok c.append.ensures.err
    ∙ ap (λ (d : PackedData). d.sects) c.self.view_is

pub returns-clause-ok : goal.returns-clause-ok
returns-clause-ok g c =
    let before = c.self.inside in
    on_ok_then c.append.result
    (λ e. e ∙ ap (λ (d : PackedData). d.items ++ item_of_parts before.texts.items c.args.parts ∷ []) c.self.view_is ∙ ap (λ (item : ItemData). c.args.self.now.items ++ item ∷ []) (plain_item before.texts.items c.args.parts c.requires))
    (appended_item before.numbers.items before.texts.items before.words.items before.sects.items before.closed c.self.invariant c.args.parts c.append.new.numbers.items c.append.new.words.items
    (plain_end before.texts.items c.args.parts c.requires) c.append.ensures.numbers c.append.result c.append.ensures.ok)

pub returns-clause-err : goal.returns-clause-err
returns-clause-err g c =
    let before = c.self.inside in
    on_err_then c.append.result (λ e. e ∙ ap (λ (d : PackedData). d.items) c.self.view_is)
    (not_appended before.numbers.items before.texts.items before.words.items before.sects.items before.closed c.self.invariant c.args.parts c.append.new.numbers.items c.append.new.words.items
    (plain_end before.texts.items c.args.parts c.requires) c.append.ensures.numbers c.append.result c.append.ensures.err)

use Rattle.std.proofs.Common.{◌∙◌, ap, refl, [], ◌∷◌, ◌++◌, arith}
use Rattle.covpacked.specs.PackedView.{PackedData}
use Rattle.covpacked.specs.Words.{item_with_text}
use Rattle.covpacked.proofs.Packeds.{on_err_then, on_ok_then, with_text_item, with_text_not, with_text_ok, with_text_sects}
use Rattle.covpacked.proofs.packed_sects.PackedSects.push_with_text.Goals as goal

pub invariant_of-self-2 : goal.invariant_of-self-2
invariant_of-self-2 g c =
    let before = c.self.inside in
    with_text_ok before.numbers.items before.texts.items before.words.items before.sects.items before.closed c.self.invariant c.args.kind c.args.text.now c.extend_from_slice.new.self.items c.args.line c.args.count _ _
    c.in_ok-extend_from_slice.ensures.items (omega (arith, c.len-begin.ensures, before.texts.ok.0)) refl c.append.new.numbers.items c.append.new.words.items c.append.ensures.numbers c.append.result c.append.ensures.ok c.append.ensures.err

pub returns-clause-sects : goal.returns-clause-sects
returns-clause-sects g c =
    let before = c.self.inside in
    with_text_sects before.numbers.items before.texts.items before.words.items before.sects.items before.closed c.self.invariant c.args.kind c.args.text.now c.extend_from_slice.new.self.items c.args.line c.args.count _ _
    c.in_ok-extend_from_slice.ensures.items (omega (arith, c.len-begin.ensures, before.texts.ok.0)) refl c.append.new.numbers.items c.append.new.words.items c.append.ensures.numbers c.append.result c.append.ensures.ok c.append.ensures.err
    ∙ ap (λ (d : PackedData). d.sects) c.self.view_is

pub returns-clause-ok : goal.returns-clause-ok
returns-clause-ok g c =
    let before = c.self.inside in
    on_ok_then c.append.result (λ e. e ∙ ap (λ (d : PackedData). d.items ++ item_with_text c.args.kind c.args.line c.args.count c.args.text.now ∷ []) c.self.view_is)
    (with_text_item before.numbers.items before.texts.items before.words.items before.sects.items before.closed c.self.invariant c.args.kind c.args.text.now c.extend_from_slice.new.self.items c.args.line c.args.count _ _
    c.in_ok-extend_from_slice.ensures.items (omega (arith, c.len-begin.ensures, before.texts.ok.0)) refl c.append.new.numbers.items c.append.new.words.items c.append.ensures.numbers c.append.result c.append.ensures.ok c.append.ensures.err c.requires)

pub returns-clause-err : goal.returns-clause-err
returns-clause-err g c =
    let before = c.self.inside in
    on_err_then c.append.result (λ e. e ∙ ap (λ (d : PackedData). d.items) c.self.view_is)
    (with_text_not before.numbers.items before.texts.items before.words.items before.sects.items before.closed c.self.invariant c.args.kind c.args.text.now c.extend_from_slice.new.self.items c.args.line c.args.count _ _
    c.in_ok-extend_from_slice.ensures.items (omega (arith, c.len-begin.ensures, before.texts.ok.0)) refl c.append.new.numbers.items c.append.new.words.items c.append.ensures.numbers c.append.result c.append.ensures.ok c.append.ensures.err)

use Rattle.covstore.proofs.Words.{◌∙◌, [], ap, sym, Some, arith, length, nat_cmp, get_or_read, value_of}
use Rattle.covstore.specs.KeptTexts.{KeptTextsData}
use Rattle.covstore.proofs.KeptTexts.{below_found, no_text, text_found}
use Rattle.covstore.proofs.kept_texts.KeptTexts.text_at.Goals as goal

pub index-requires : goal.index-requires
index-requires g c =
    let inside = c.self.inside in
    let found = sym c.staged_at-place.ensures.value ∙ c.in-Some.is in
    let below = below_found (length inside.texts.items) c.args.line c.in-Some.place inside.places.staged c.self.invariant.staged_below found in
    omega (arith, below, inside.texts.ok.0)

pub returns-in-Some : goal.returns-in-Some
returns-in-Some g c =
    let inside = c.self.inside in
    let found = sym c.staged_at-place.ensures.value ∙ c.in-Some.is ∙ ap Some (sym c.get.ensures) in
    let below = below_found (length inside.texts.items) c.args.line c.get.result inside.places.staged c.self.invariant.staged_below found in
    ap Some (c.get-in-Some.ensures ∙ get_or_read inside.texts.items c.get.result c.index.result.now below c.index.ensures [])
    ∙ sym (text_found c.args.line c.get.result inside.texts.items inside.places.staged found)
    ∙ ap (λ (kept : KeptTextsData). value_of nat_cmp c.args.line kept.staged) c.self.view_is

pub returns-in-None : goal.returns-in-None
returns-in-None g c =
    let inside = c.self.inside in
    sym (no_text c.args.line inside.texts.items inside.places.staged (sym c.staged_at-place.ensures.value ∙ c.in-None.is))
    ∙ ap (λ (kept : KeptTextsData). value_of nat_cmp c.args.line kept.staged) c.self.view_is

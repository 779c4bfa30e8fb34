use Rattle.std.proofs.Common.{◌≡◌, ◌∙◌, ap, subst, sym, List, [], ◌∷◌, ◌++◌, arith, length}
use Rattle.covpacked.specs.PackedView.{ArePacked, PackedData, items_of, sects_of}
use Rattle.covpacked.specs.declared.packed_sects.ClosedSect.{ClosedSect}
use Rattle.covpacked.proofs.Closes.{closed_ok, closed_sects, named_data, named_ok, on_err_any}
use Rattle.covpacked.proofs.packed_sects.PackedSects.close.Goals as goal

pub returns-in_err-test-clause-same_sects : goal.returns-in_err-test-clause-same_sects
returns-in_err-test-clause-same_sects g c =
    let before = c.self.inside in
    on_err_any c.from_residual.result (ap (λ (d : PackedData). d.sects)
    (named_data before.numbers.items before.texts.items before.words.items before.sects.items before.closed c.self.invariant c.place_names.new.texts.items c.place_names.ensures.grows ∙ c.self.view_is))

pub returns-in_err-test-clause-same_items : goal.returns-in_err-test-clause-same_items
returns-in_err-test-clause-same_items g c =
    let before = c.self.inside in
    on_err_any c.from_residual.result (ap (λ (d : PackedData). d.items)
    (named_data before.numbers.items before.texts.items before.words.items before.sects.items before.closed c.self.invariant c.place_names.new.texts.items c.place_names.ensures.grows ∙ c.self.view_is))

pub invariant_of-self-in_err-push : goal.invariant_of-self-in_err-push
invariant_of-self-in_err-push g c =
    let before = c.self.inside in
    subst (λ (sects : List ClosedSect). ArePacked before.numbers.items c.place_names.new.texts.items before.words.items sects before.closed) (sym c.in_err-push.ensures.items)
    (named_ok before.numbers.items before.texts.items before.words.items before.sects.items before.closed c.self.invariant c.place_names.new.texts.items c.place_names.ensures.grows)

pub returns-in_err-push-clause-same_sects : goal.returns-in_err-push-clause-same_sects
returns-in_err-push-clause-same_sects g c =
    let before = c.self.inside in
    on_err_any c.from_residual-in_err-push.result (ap (sects_of c.place_names.new.texts.items (items_of before.numbers.items c.place_names.new.texts.items before.words.items)) c.in_err-push.ensures.items ∙ ap (λ (d : PackedData). d.sects)
    (named_data before.numbers.items before.texts.items before.words.items before.sects.items before.closed c.self.invariant c.place_names.new.texts.items c.place_names.ensures.grows ∙ c.self.view_is))

pub returns-in_err-push-clause-same_items : goal.returns-in_err-push-clause-same_items
returns-in_err-push-clause-same_items g c =
    let before = c.self.inside in
    on_err_any c.from_residual-in_err-push.result (ap (λ (d : PackedData). d.items)
    (named_data before.numbers.items before.texts.items before.words.items before.sects.items before.closed c.self.invariant c.place_names.new.texts.items c.place_names.ensures.grows ∙ c.self.view_is))

pub invariant_of-self-2 : goal.invariant_of-self-2
invariant_of-self-2 g c =
    let before = c.self.inside in
    let names = c.in_ok-test.field-0 in
    let all : length before.words.items ≡ c.len-self-inside.result = omega (arith, c.len-self-inside.ensures, before.words.ok.0) in
    subst (ArePacked before.numbers.items c.place_names.new.texts.items before.words.items c.push.new.self.items) all
    (closed_ok before.numbers.items before.texts.items before.words.items before.sects.items before.closed c.self.invariant c.place_names.new.texts.items c.place_names.ensures.grows
    (record { test = names.test; file = names.file; items = _ }) c.args.test.now c.args.file.now c.in_ok-test.ensures.test c.in_ok-test.ensures.file
    (omega (arith, c.len.ensures, before.words.ok.0)) c.push.new.self.items c.in_ok-push.ensures.items)

pub returns-clause-sects : goal.returns-clause-sects
returns-clause-sects g c =
    let before = c.self.inside in
    let names = c.in_ok-test.field-0 in
    closed_sects before.numbers.items before.texts.items before.words.items before.sects.items before.closed c.self.invariant c.place_names.new.texts.items c.place_names.ensures.grows
    (record { test = names.test; file = names.file; items = _ }) c.args.test.now c.args.file.now c.in_ok-test.ensures.test c.in_ok-test.ensures.file
    (omega (arith, c.len.ensures, before.words.ok.0)) c.push.new.self.items c.in_ok-push.ensures.items
    ∙ ap (λ (d : PackedData). d.sects ++ record { test = c.args.test.now; file = c.args.file.now; items = d.items } ∷ []) c.self.view_is

use Rattle.std.proofs.Common.{ℕ, List, length, ap, sym, subst, ◌-◌, ◌∙◌}
use Rattle.std.specs.Prelude.{slice_get}
use Rattle.covpacked.specs.PackedView.{PackedData, items_of}
use Rattle.covpacked.specs.ReadTexts.{IsLastTest}
use Rattle.covpacked.specs.Words.{text_at}
use Rattle.covpacked.specs.declared.packed_sects.ClosedSect.{ClosedSect}
use Rattle.covpacked.proofs.Lasts.{last_closed}
use Rattle.covpacked.proofs.packed_sects.PackedSects.last_test.Goals as goal

pub returns : goal.returns
returns g c =
    let own = c.self.inside in
    let last = c.in_ok-begin.field-0.now in
    let found = sym (c.in_ok-begin.ensures.value ∙ ap (λ (sects : List ClosedSect). slice_get sects (length sects - 1)) c.deref.ensures.value) in
    subst (λ (d : PackedData). IsLastTest d.sects c.text_at.result.now) c.self.view_is
    (last_closed own.texts.items (items_of own.numbers.items own.texts.items own.words.items) own.sects.items last c.text_at.result.now found
    (c.text_at.ensures ∙ ap (λ (texts : List ℕ). text_at texts last.test.begin last.test.bytes) c.as_slice.ensures.value))

use Rattle.std.proofs.Common.{◌∙◌, ap, sym, ◌-◌, length, List, ℕ}
use Rattle.std.specs.Prelude.{slice_get}
use Rattle.covpacked.specs.PackedView.{HasTexts}
use Rattle.covpacked.specs.Words.{text_at}
use Rattle.covpacked.specs.declared.packed_sects.ClosedSect.{ClosedSect}
use Rattle.covpacked.proofs.Closes.{all_found}
use Rattle.covpacked.proofs.packed_sects.last_test.Goals as goal

pub returns-then-is_same : goal.returns-then-is_same
returns-then-is_same g c =
    let place = c.in_ok-place.field-0.now.test in
    record {
      is = ap (λ (texts : List ℕ). text_at texts place.begin place.bytes) (sym c.as_slice.ensures.value) ∙ c.is_text_at-is_same.ensures.0 c.if-is_same.true;
      fits = (all_found (HasTexts c.args.texts.now.items) c.args.sects.now.items (length c.deref.result.now - 1) c.in_ok-place.field-0.now c.requires
          (c.in_ok-place.ensures.value ∙ ap (λ (sects : List ClosedSect). slice_get sects (length c.deref.result.now - 1)) c.deref.ensures.value)).test;
    }

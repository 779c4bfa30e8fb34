use Rattle.std.proofs.Common.{◌≡◌, ℕ, ◌<◌, ◌≤◌, List, Option, Some, length, get_or, ap, sym, ◌∙◌, arith}
use Rattle.std.specs.Prelude.{nat_lt, option_map, slice_get}
use Rattle.std.proofs.lemmas.Bool.{ltb-false, ltb-true}
use Rattle.covdata.specs.Row.{SectData}
use Rattle.covpacked.specs.PackedView.{PackedData, items_of}
use Rattle.covpacked.specs.Words.{text_at}
use Rattle.covpacked.specs.declared.packed_sects.ClosedSect.{ClosedSect}
use Rattle.covpacked.proofs.Renames.{file_found, no_file_found}
use Rattle.covpacked.proofs.packed_sects.PackedSects.file_at.Goals as goal

pub returns-in-Some : goal.returns-in-Some
returns-in-Some g c =
    let own = c.self.inside in
    let index = c.args.index in
    let s = c.in-Some.sect.now in
    let within : index < length own.sects.items =
    ltb-true index (length own.sects.items) (sym (c.in-Some.ensures.lookup.0 ∙ ap (λ (sects : List ClosedSect). nat_lt index (length sects)) c.deref.ensures.value)) in
    let found = c.in-Some.ensures.lookup.1 ∙ ap (λ (sects : List ClosedSect). get_or sects index s) c.deref.ensures.value in
    ap (λ (text : List ℕ). Some text) (c.text_at.ensures ∙ ap (λ (texts : List ℕ). text_at texts s.file.begin s.file.bytes) c.as_slice.ensures.value)
    ∙ sym (file_found own.texts.items (items_of own.numbers.items own.texts.items own.words.items) own.sects.items index s within found)
    ∙ ap (λ (d : PackedData). option_map (λ (sect : SectData). sect.file) (slice_get d.sects index)) c.self.view_is

pub returns-in-None : goal.returns-in-None
returns-in-None g c =
    let own = c.self.inside in
    let index = c.args.index in
    let beyond : length own.sects.items ≤ index =
    ltb-false index (length own.sects.items) (sym (c.in-None.ensures.lookup.0 ∙ ap (λ (sects : List ClosedSect). nat_lt index (length sects)) c.deref.ensures.value)) in
    sym (no_file_found own.texts.items (items_of own.numbers.items own.texts.items own.words.items) own.sects.items index beyond)
    ∙ ap (λ (d : PackedData). option_map (λ (sect : SectData). sect.file) (slice_get d.sects index)) c.self.view_is

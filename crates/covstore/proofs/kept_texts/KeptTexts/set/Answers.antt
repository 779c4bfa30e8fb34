use Rattle.covstore.proofs.Words.{◌≡◌, ◌≤◌, ◌∙◌, Some, ap, sym, subst, ℕ, arith, length, slice_set, nat_cmp, MapData, put, value_of}
use Rattle.std.proofs.Math.ListN.{length-set}
use Rattle.covstore.specs.KeptTexts.{AreBelow, AreCommitted, ArePlaced, KeptTextsData, StillHave, texts_at}
use Rattle.covstore.proofs.KeptTexts.{are_committed, below_found, no_text, replaced, still_have}
use Rattle.covstore.proofs.kept_texts.KeptTexts.set.Goals as goal

pub index_mut-requires : goal.index_mut-requires
index_mut-requires g c =
    let inside = c.self.inside in
    let found = sym c.lookup_staged.ensures.value ∙ c.in-Some.is in
    let below = below_found (length inside.texts.items) c.args.line c.in-Some.place inside.places.staged c.self.invariant.staged_below found in
    omega (arith, below, inside.texts.ok.0)

-- the line keeps its index, and there are as many texts as before
pub invariant_of-self : goal.invariant_of-self
invariant_of-self g c =
    let inside = c.self.inside in
    let have = c.self.invariant in
    let more = slice_set inside.texts.items c.get.result c.args.text in
    let as_many : length more ≡ length inside.texts.items = length-set inside.texts.items c.get.result c.args.text in
    subst (λ (places : MapData ℕ ℕ). ArePlaced places more inside.committed) (sym c.lookup_staged.ensures.same)
    (record {
      committed_below = have.committed_below;
      staged_below = subst (λ count. AreBelow count inside.places.staged) (sym as_many) have.staged_below;
      committed_fits = subst (λ count. inside.committed ≤ count) (sym as_many) have.committed_fits;
      committed_all = have.committed_all;
      staged_all = as_many ∙ have.staged_all;
      stay = have.stay;
      apart = have.apart;
    })

-- no line's index is lost, and the line had none
pub add-requires : goal.add-requires
add-requires g c =
    let inside = c.self.inside in
    let none = sym c.lookup_staged.ensures.value ∙ c.in-None.is in
    ap (λ (places : MapData ℕ ℕ). value_of nat_cmp c.args.line (texts_at inside.texts.items places.staged)) c.lookup_staged.ensures.same
    ∙ no_text c.args.line inside.texts.items inside.places.staged none

pub returns-in-Some-clause-committed : goal.returns-in-Some-clause-committed
returns-in-Some-clause-committed g c =
    let inside = c.self.inside in
    let more = slice_set inside.texts.items c.get.result c.args.text in
    subst (λ (before : KeptTextsData). StillHave before.committed (texts_at more c.lookup_staged.new.self.committed)) c.self.view_is
    (subst (λ (places : MapData ℕ ℕ). StillHave (texts_at inside.texts.items inside.places.committed) (texts_at more places.committed)) (sym c.lookup_staged.ensures.same)
    (still_have inside.texts.items more inside.places.committed))

pub returns-in-Some-clause-ok : goal.returns-in-Some-clause-ok
returns-in-Some-clause-ok g c =
    let inside = c.self.inside in
    let found = sym c.lookup_staged.ensures.value ∙ c.in-Some.is ∙ ap Some (sym c.get.ensures) in
    let more = slice_set inside.texts.items c.get.result c.args.text in
    ap (λ (places : MapData ℕ ℕ). texts_at more places.staged) c.lookup_staged.ensures.same
    ∙ replaced c.args.line c.get.result c.args.text inside.places inside.texts.items inside.committed c.self.invariant found c.lookup_staged.ensures.staged
    ∙ ap (λ (before : KeptTextsData). put nat_cmp c.args.line c.args.text before.staged) c.self.view_is

pub returns-in-Some-clause-among : goal.returns-in-Some-clause-among
returns-in-Some-clause-among g c = subst AreCommitted c.self.view_is (are_committed c.self.inside.places c.self.inside.texts.items c.self.invariant.stay)

pub returns-in-None-clause-among : goal.returns-in-None-clause-among
returns-in-None-clause-among g c = subst AreCommitted c.self.view_is (are_committed c.self.inside.places c.self.inside.texts.items c.self.invariant.stay)

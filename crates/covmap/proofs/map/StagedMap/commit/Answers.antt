use Rattle.std.proofs.Common.{◌≡◌, ◌∷◌, [], ◌∙◌, ℕ, List, Option, ap, arith, length, refl, sym, subst}
use Rattle.std.proofs.lemmas.List.{length-append}
use Rattle.covmap.specs.Staged.{AreAscending, AreColumnsOf, IsColumnOf, staged_of, with_page}
use Rattle.covmap.specs.MapData.{MapData}
use Rattle.covmap.specs.Slots.{filled, slots_of}
use Rattle.covmap.proofs.StagedPages.{nothing_staged}
use Rattle.covmap.proofs.Leads.{all_back}
use Rattle.covmap.proofs.MapCommits.{columns_left, taken_last}
use Rattle.covmap.proofs.map.StagedMap.commit.Goals as goal

pub loop-number-preserved : goal.loop-number-preserved
loop-number-preserved g c =
    let slots = c.loop-number.self-inside.slots in
    let left = c.pop.new.self in
    let parts = c.in-Some.ensures.some in
    let after : c.fill.new.self ≡ with_page c.in-Some.number c.in-Some.column.items slots = c.fill.ensures in (
      subst (λ pages. AreColumnsOf pages left) (sym after) (columns_left slots left (c.in-Some.number, c.in-Some.column.items) (subst (AreColumnsOf slots) parts c.loop-number.invariant.0)),
      ap (λ pages. staged_of pages left) after
          ∙ taken_last slots left (c.in-Some.number, c.in-Some.column.items) (subst AreAscending parts c.in-Some.ensures.ascending)
          ∙ ap (staged_of slots) (sym parts)
          ∙ c.loop-number.invariant.1,
    )

pub returns-clause-committed : goal.returns-clause-committed
returns-clause-committed g c =
    let old = c.self.inside in
    let slots = c.loop-number.self-inside.slots in
    let done : slots ≡ staged_of old.slots old.staged = sym (nothing_staged 0 slots) ∙ ap (staged_of slots) (sym c.in_default.ensures.same) ∙ c.loop-number.invariant.1 in
    ap (λ pages. filled (slots_of pages)) done ∙ ap (λ (entries : MapData g.row.K.Denot g.row.V.Denot). entries.staged) c.self.view_is

pub fill-requires : goal.fill-requires
fill-requires g c =
    let slots = c.loop-number.self-inside.slots in
    let last : ℕ × List (Option g.row.V.Denot) = (c.in-Some.number, c.in-Some.column.items) in
    let fit = (all_back (IsColumnOf slots) c.pop.new.self (last ∷ []) (subst (AreColumnsOf slots) c.in-Some.ensures.some c.loop-number.invariant.0)).0 in
    record { there = fit.0; fits = fit.1 }

pub loop-number-init : goal.loop-number-init
loop-number-init g c = (c.self.invariant, refl)

pub invariant_of-self : goal.invariant_of-self
invariant_of-self g c = subst (AreColumnsOf c.loop-number.self-inside.slots) (sym c.in_default.ensures.none) tt

pub returns-clause-staged : goal.returns-clause-staged
returns-clause-staged g c =
    let slots = c.loop-number.self-inside.slots in
    ap (λ columns. filled (slots_of (staged_of slots columns))) (c.in_default.ensures.none ∙ sym c.in_default.ensures.same)
    ∙ ap (λ pages. filled (slots_of pages)) c.loop-number.invariant.1
    ∙ ap (λ (entries : MapData g.row.K.Denot g.row.V.Denot). entries.staged) c.self.view_is

pub loop-number-smaller : goal.loop-number-smaller
loop-number-smaller g c = omega (arith, ap length c.in-Some.ensures.some ∙ length-append c.pop.new.self ((c.in-Some.number, c.in-Some.column.items) ∷ []))

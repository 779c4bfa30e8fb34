use Rattle.covstore.proofs.Words.{◌≢◌, List, [], ◌∷◌, ◌++◌, sym, ap, subst, ◌∙◌, append-nil, append_assoc, flat_map, err_from_is_err_and, SectData, rows_of_sect, AddsRows, ClashesWith}
use Rattle.covpacked.specs.PackedSects.{packed_sect_data}
use Rattle.covtable.specs.RefuseView.{refuse_data}
use Rattle.covstore.proofs.AddsSome.{some_of_them}
use Rattle.covstore.proofs.AddsStore.{HasTakenSects, held_by_both, next_room, no_sects, one_sect, sect_clashes}
use Rattle.covmap.proofs.SlotWrites.{on_err}
use Rattle.covstore.proofs.store.Store.add_all.Goals as goal

pub loop-sect-init : goal.loop-sect-init
loop-sect-init g c =
    let all = c.into_iter-sect-iterator.ensures.into_iter_gives in (
      [],
      all,
      subst (λ (left : List SectData). HasTakenSects [] left c.args.self.now c.args.self.now) (sym all) (no_sects c.args.sects c.args.self.now c.requires),
    )

pub add_section-requires : goal.add_section-requires
add_section-requires g c =
    let l = c.loop-sect in
    let h = l.invariant in
    next_room h.0 (packed_sect_data c.in-Some.sect) c.next.new.self c.args.self.now l.self
    (subst (λ (more : List SectData). HasTakenSects h.0 more c.args.self.now l.self) c.in-Some.ensures.steps h.2)

pub returns-in_err-add_section-clause-committed : goal.returns-in_err-add_section-clause-committed
returns-in_err-add_section-clause-committed g c = held_by_both c.args.self.now c.loop-sect.self c.add_section.new.self c.loop-sect.invariant.2.committed c.add_section.ensures.committed

pub returns-in_err-add_section-clause-clash : goal.returns-in_err-add_section-clause-clash
returns-in_err-add_section-clause-clash g c =
    let l = c.loop-sect in
    let h = l.invariant in
    let sect = packed_sect_data c.in-Some.sect in
    let all = sym (ap (λ (left : List SectData). h.0 ++ left) (sym c.in-Some.ensures.steps) ∙ h.1) in
    let p = err_from_is_err_and c.from_residual.result c.from_residual.ensures.1 in
    rw (p.1, p.2)
    (subst (λ (xs : List SectData). ClashesWith (flat_map rows_of_sect xs) c.args.self.now (refuse_data c.in_err-add_section.field-0.0)) (sym all)
    (sect_clashes h.0 sect c.next.new.self c.args.self.now l.self
    (subst (λ (more : List SectData). HasTakenSects h.0 more c.args.self.now l.self) c.in-Some.ensures.steps h.2)
    (refuse_data c.in_err-add_section.field-0.0) c.in_err-add_section.ensures.clash))

pub returns-in_err-add_section-clause-some : goal.returns-in_err-add_section-clause-some
returns-in_err-add_section-clause-some g c =
    let l = c.loop-sect in
    let h = l.invariant in
    let all = sym (ap (λ (left : List SectData). h.0 ++ left) (sym c.in-Some.ensures.steps) ∙ h.1) in
    on_err c.from_residual.result
    (subst (λ (xs : List SectData). flat_map rows_of_sect xs ≢ []) (sym all) (some_of_them h.0 (packed_sect_data c.in-Some.sect) c.next.new.self c.in_err-add_section.ensures.some))

pub loop-sect-preserved : goal.loop-sect-preserved
loop-sect-preserved g c =
    let l = c.loop-sect in
    let h = l.invariant in
    let sect = packed_sect_data c.in-Some.sect in (
      h.0 ++ sect ∷ [],
      append_assoc h.0 (sect ∷ []) c.next.new.self ∙ ap (λ (left : List SectData). h.0 ++ left) (sym c.in-Some.ensures.steps) ∙ h.1,
      one_sect h.0 sect c.next.new.self c.args.self.now l.self (subst (λ (more : List SectData). HasTakenSects h.0 more c.args.self.now l.self) c.in-Some.ensures.steps h.2)
          c.add_section.new.self c.add_section.ensures.committed c.in_ok-add_section.ensures.ok,
    )

pub returns-clause-ok : goal.returns-clause-ok
returns-clause-ok g c =
    let l = c.loop-sect in
    let h = l.invariant in
    let all = sym (append-nil h.0) ∙ ap (λ (left : List SectData). h.0 ++ left) (sym c.in-None.ensures.steps.0) ∙ h.1 in
    subst (λ (some : List SectData). AddsRows (flat_map rows_of_sect some) c.args.self.now l.self) all h.2.adds

use Rattle.covstore.proofs.Words.{◌≢◌, List, [], sym, ◌∙◌, subst, flat_map, SectData, rows_of_sect, AddsRows, ClashesWith, HasRoomForRows, AreTotals}
use Rattle.covtable.specs.RefuseView.{refuse_data}
use Rattle.covstore.proofs.Prepares.{is_planned, later_bounds, planned_agrees, planned_totals, refused_too, room_for_submission}
use Rattle.covstore.proofs.store.Store.prepare_packed.Goals as goal

pub add_all-added-requires : goal.add_all-added-requires
add_all-added-requires g c =
    let settled = c.rollback.ensures in
    subst (λ (sects : List SectData). HasRoomForRows (flat_map rows_of_sect sects) c.rollback.new.self) (sym c.sects.ensures.sects)
    (room_for_submission c.args.self.now c.kept.result c.kept.ensures c.requires c.args.submission.now c.sects.ensures.lawful c.rollback.new.self settled.sections settled.members settled.committed settled.staged settled.after)

pub new-requires : goal.new-requires
new-requires g c =
    let settled = c.rollback.ensures in
    let later = c.add_all-added.new.self in
    let added = subst (λ (sects : List SectData). AddsRows (flat_map rows_of_sect sects) c.rollback.new.self later) c.sects.ensures.sects c.in-Ok.ensures.ok in
    subst AreTotals (sym c.after.ensures)
    (later_bounds c.args.self.now c.kept.result c.kept.ensures c.requires c.args.submission.now c.sects.ensures.lawful c.rollback.new.self settled.sections settled.members settled.committed settled.staged settled.after later c.add_all-added.ensures.committed added)

pub returns-in-Ok-clause-planned : goal.returns-in-Ok-clause-planned
returns-in-Ok-clause-planned g c =
    let settled = c.rollback.ensures in
    let later = c.add_all-added.new.self in
    let added = subst (λ (sects : List SectData). AddsRows (flat_map rows_of_sect sects) c.rollback.new.self later) c.sects.ensures.sects c.in-Ok.ensures.ok in
    is_planned c.args.self.now c.kept.result c.kept.ensures c.requires c.args.submission.now c.sects.ensures.lawful c.rollback.new.self settled.sections settled.members settled.committed settled.staged settled.after later c.add_all-added.ensures.committed added
    c.new.result (c.new.ensures ∙ c.after.ensures)

pub returns-in-Ok-clause-after : goal.returns-in-Ok-clause-after
returns-in-Ok-clause-after g c = λ table stands.
    let settled = c.rollback.ensures in
    let later = c.add_all-added.new.self in
    let added = subst (λ (sects : List SectData). AddsRows (flat_map rows_of_sect sects) c.rollback.new.self later) c.sects.ensures.sects c.in-Ok.ensures.ok in
    c.new.ensures ∙ c.after.ensures
    ∙ planned_totals c.args.self.now c.kept.result c.kept.ensures c.requires c.args.submission.now c.sects.ensures.lawful c.rollback.new.self settled.sections settled.members settled.committed settled.staged settled.after later c.add_all-added.ensures.committed added
    table stands

pub returns-in-Ok-clause-agrees : goal.returns-in-Ok-clause-agrees
returns-in-Ok-clause-agrees g c = λ table stands.
    let settled = c.rollback.ensures in
    let later = c.add_all-added.new.self in
    let added = subst (λ (sects : List SectData). AddsRows (flat_map rows_of_sect sects) c.rollback.new.self later) c.sects.ensures.sects c.in-Ok.ensures.ok in
    planned_agrees c.args.self.now c.kept.result c.kept.ensures c.requires c.args.submission.now c.sects.ensures.lawful c.rollback.new.self settled.sections settled.members settled.committed settled.staged settled.after later c.add_all-added.ensures.committed added
    table stands

pub returns-in-Err-clause-refused : goal.returns-in-Err-clause-refused
returns-in-Err-clause-refused g c = λ table stands.
    let settled = c.rollback.ensures in
    let later = c.add_all-added.new.self in
    let clash = subst (λ (sects : List SectData). ClashesWith (flat_map rows_of_sect sects) c.rollback.new.self (refuse_data c.in-Err.refusal)) c.sects.ensures.sects c.in-Err.ensures.clash in
    refused_too c.args.self.now c.kept.result c.kept.ensures c.requires c.args.submission.now c.sects.ensures.lawful c.rollback.new.self settled.sections settled.members settled.committed settled.staged settled.after later c.add_all-added.ensures.committed
    (refuse_data c.in-Err.refusal) clash table stands

pub returns-in-Err-clause-some : goal.returns-in-Err-clause-some
returns-in-Err-clause-some g c = subst (λ (sects : List SectData). flat_map rows_of_sect sects ≢ []) c.sects.ensures.sects c.in-Err.ensures.some

use Rattle.covstore.proofs.Words.{◌≡◌, ℕ, List, [], ◌∷◌, ◌++◌, Vec, sym, ap, ◌∙◌, subst, err_from_is_err_and, File, file_staged, file_committed, no_file, KeepsState, AreSettledBut, IsSettledBut, files_committed}
use Rattle.covtable.specs.RefuseView.{refuse_data}
use Rattle.covstore.proofs.AddsMaps.{inserted_settled}
use Rattle.covstore.proofs.AddsWritten.{new_adds, new_keeps, new_refused, new_room, new_totals}
use Rattle.covstore.proofs.KeepsMore.{state_stays}
use Rattle.covstore.proofs.Settled.{file_name, files_with_more}
use Rattle.covstore.proofs.store.stage_in_new_file.Goals as goal

-- the file isn't inserted

pub returns-in_err-made-clause-committed : goal.returns-in_err-made-clause-committed
returns-in_err-made-clause-committed g c = state_stays (files_committed file_name c.args.files.now.entries)

pub returns-in_err-made-clause-settled : goal.returns-in_err-made-clause-settled
returns-in_err-made-clause-settled g c = λ touched settled. files_with_more touched c.args.file.now c.args.test.now c.args.files.now.entries settled

pub stage_section-requires : goal.stage_section-requires
stage_section-requires g c =
    let made = c.get_mut.result.now in
    let empty : file_staged made ≡ no_file = ap file_staged (c.get_mut.ensures.value ∙ c.in_ok-made.ensures) ∙ c.new.ensures.staged in
    new_room c.args.file.now c.args.test.now c.args.items.now c.args.files.now.entries c.requires.room c.requires.new made empty

pub returns-in_err-totals-clause-committed : goal.returns-in_err-totals-clause-committed
returns-in_err-totals-clause-committed g c = state_stays (files_committed file_name c.args.files.now.entries)

pub returns-in_err-totals-clause-clash : goal.returns-in_err-totals-clause-clash
returns-in_err-totals-clause-clash g c =
    let made = c.get_mut.result.now in
    let empty : file_staged made ≡ no_file = ap file_staged (c.get_mut.ensures.value ∙ c.in_ok-made.ensures) ∙ c.new.ensures.staged in
    let p = err_from_is_err_and c.from_residual-in_err-totals.result c.from_residual-in_err-totals.ensures.1 in
    rw (p.1, p.2)
    (new_refused c.args.file.now c.args.test.now c.args.items.now c.args.files.now.entries c.requires.room c.requires.new made empty (refuse_data c.in_err-totals.field-0.0) c.in_err-totals.ensures.clash)

pub returns-in_err-totals-clause-settled : goal.returns-in_err-totals-clause-settled
returns-in_err-totals-clause-settled g c = λ touched settled. files_with_more touched c.args.file.now c.args.test.now c.args.files.now.entries settled

pub returns-in_err-from_slice-clause-committed : goal.returns-in_err-from_slice-clause-committed
returns-in_err-from_slice-clause-committed g c = state_stays (files_committed file_name c.args.files.now.entries)

pub returns-in_err-from_slice-clause-settled : goal.returns-in_err-from_slice-clause-settled
returns-in_err-from_slice-clause-settled g c = λ touched settled. files_with_more touched c.args.file.now c.args.test.now c.args.files.now.entries settled

pub returns-in_err-insert-clause-committed : goal.returns-in_err-insert-clause-committed
returns-in_err-insert-clause-committed g c =
    subst (λ (pairs : List (Vec ℕ g.row.A.Denot × File g.row.A.Denot)). KeepsState (files_committed file_name c.args.files.now.entries) (files_committed file_name pairs)) (sym c.in_err-insert.ensures.err)
    (state_stays (files_committed file_name c.args.files.now.entries))

pub returns-in_err-insert-clause-settled : goal.returns-in_err-insert-clause-settled
returns-in_err-insert-clause-settled g c = λ touched settled.
    subst (AreSettledBut file_name (touched ++ (c.args.file.now, c.args.test.now) ∷ [])) (sym c.in_err-insert.ensures.err) (files_with_more touched c.args.file.now c.args.test.now c.args.files.now.entries settled)

-- the file is inserted

pub returns-clause-committed : goal.returns-clause-committed
returns-clause-committed g c =
    let made = c.get_mut.result.now in
    let after = c.stage_section.new.self in
    let staged : file_staged made ≡ no_file = ap file_staged (c.get_mut.ensures.value ∙ c.in_ok-made.ensures) ∙ c.new.ensures.staged in
    let committed : file_committed made ≡ no_file = ap file_committed (c.get_mut.ensures.value ∙ c.in_ok-made.ensures) ∙ c.new.ensures.committed in
    new_keeps c.args.file.now c.args.test.now c.args.items.now c.args.files.now.entries c.requires.room c.requires.new made staged
    c.in_ok-from_slice.field-0 c.in_ok-from_slice.ensures.items after c.insert.new.self.entries c.in_ok-insert.ensures.entries c.insert.ensures.was_ordered committed c.stage_section.ensures.committed

pub returns-clause-ok : goal.returns-clause-ok
returns-clause-ok g c =
    let made = c.get_mut.result.now in
    let after = c.stage_section.new.self in
    let staged : file_staged made ≡ no_file = ap file_staged (c.get_mut.ensures.value ∙ c.in_ok-made.ensures) ∙ c.new.ensures.staged in
    new_adds c.args.file.now c.args.test.now c.args.items.now c.args.files.now.entries c.requires.room c.requires.new made staged
    c.in_ok-from_slice.field-0 c.in_ok-from_slice.ensures.items after c.insert.new.self.entries c.in_ok-insert.ensures.entries c.in_ok-totals.ensures.ok

pub returns-clause-totals : goal.returns-clause-totals
returns-clause-totals g c =
    let made = c.get_mut.result.now in
    let after = c.stage_section.new.self in
    let staged : file_staged made ≡ no_file = ap file_staged (c.get_mut.ensures.value ∙ c.in_ok-made.ensures) ∙ c.new.ensures.staged in
    new_totals c.args.file.now c.args.test.now c.args.items.now c.args.files.now.entries c.requires.room c.requires.new made staged
    c.in_ok-from_slice.field-0 c.in_ok-from_slice.ensures.items after c.insert.new.self.entries c.in_ok-insert.ensures.entries c.in_ok-totals.ensures.ok
    c.in_ok-totals.totals.0 c.in_ok-totals.totals.1 c.in_ok-totals.ensures.totals.0 c.in_ok-totals.ensures.totals.1

pub returns-clause-settled : goal.returns-clause-settled
returns-clause-settled g c = λ touched settled.
    let after = c.stage_section.new.self in
    inserted_settled touched c.args.file.now c.args.test.now c.in_ok-from_slice.field-0 after c.args.files.now.entries c.insert.new.self.entries c.in_ok-from_slice.ensures.items c.in_ok-insert.ensures.entries
    (λ tests among. c.stage_section.ensures.settled tests among (subst (IsSettledBut tests) (sym (c.get_mut.ensures.value ∙ c.in_ok-made.ensures)) (c.new.ensures.settled tests))) settled

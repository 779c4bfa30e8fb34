use Rattle.covstore.proofs.Words.{◌≡◌, ℕ, None, Some, BTreeMap, List, [], ◌∷◌, ◌++◌, Vec, sym, ap, ◌∙◌, subst, IfErr, IfOk, OnOk, is_at, slice_cmp, lookup, nat_cmp, IfErr-weaker, on_ok_weaker, File, file_staged, file_committed, totals_in, AddsTo, ClashesAmong, KeepsState, AreSettledBut, files_committed, files_staged, IsExchange}
use Rattle.covtable.specs.RefuseView.{refuse_data}
use Rattle.covstore.specs.StoreSection.{HasRoomAmong, RefusedIn, rows_of_items}
use Rattle.covstore.proofs.AddsMaps.{kept_written, written_settled}
use Rattle.covstore.proofs.AddsWritten.{found_adds, found_refused, found_room, found_totals, totals_of_both}
use Rattle.covstore.proofs.Settled.{file_name}
use Rattle.covstore.proofs.store.stage_in_files.Goals as goal

-- ---- the store has the file

pub stage_section-requires : goal.stage_section-requires
stage_section-requires g c =
    let found = sym c.in-Some.ensures.value ∙ ap Some (sym c.get_mut-in-Some.ensures.value) in
    found_room c.args.file.now.items c.args.test.now c.args.items.now c.args.files.now.entries c.requires c.get_mut-in-Some.result.now found

pub returns-in-Some-clause-committed : goal.returns-in-Some-clause-committed
returns-in-Some-clause-committed g c =
    let found = sym c.in-Some.ensures.value ∙ ap Some (sym c.get_mut-in-Some.ensures.value) in
    let after = c.stage_section.new.self in
    kept_written file_name c.args.file.now.items c.args.files.now.entries c.get_mut-in-Some.result.now found after (c.get_mut.follows.lender after).entries c.get_mut.ensures.ordered (c.get_mut.follows.holds after).0 file_committed
    c.stage_section.ensures.committed

pub returns-in-Some-clause-ok : goal.returns-in-Some-clause-ok
returns-in-Some-clause-ok g c =
    let found = sym c.in-Some.ensures.value ∙ ap Some (sym c.get_mut-in-Some.ensures.value) in
    let after = c.stage_section.new.self in
    on_ok_weaker c.stage_section.result
    (found_adds c.args.file.now.items c.args.test.now c.args.items.now c.args.files.now.entries c.requires c.get_mut-in-Some.result.now found after (c.get_mut.follows.lender after).entries c.get_mut.ensures.ordered
    (c.get_mut.follows.holds after).0)
    c.stage_section.ensures.ok

pub returns-in-Some-clause-clash : goal.returns-in-Some-clause-clash
returns-in-Some-clause-clash g c =
    let found = sym c.in-Some.ensures.value ∙ ap Some (sym c.get_mut-in-Some.ensures.value) in
    let items = c.args.items.now in
    IfErr-weaker c.stage_section.result (λ e. RefusedIn items c.args.file.now.items c.args.test.now (file_staged c.get_mut-in-Some.result.now) (refuse_data e))
    (λ e. ClashesAmong (rows_of_items c.args.file.now.items c.args.test.now items) (files_staged file_name c.args.files.now.entries) (refuse_data e))
    (λ e. found_refused c.args.file.now.items c.args.test.now items c.args.files.now.entries c.requires c.get_mut-in-Some.result.now found (refuse_data e))
    (subst (λ (file : List ℕ). IfErr c.stage_section.result (λ e. RefusedIn items file c.args.test.now (file_staged c.get_mut-in-Some.result.now) (refuse_data e))) c.as_slice-name.ensures.value c.stage_section.ensures.clash)

pub returns-in-Some-clause-settled : goal.returns-in-Some-clause-settled
returns-in-Some-clause-settled g c = λ touched settled.
    let found = sym c.in-Some.ensures.value ∙ ap Some (sym c.get_mut-in-Some.ensures.value) in
    let after = c.stage_section.new.self in
    written_settled touched c.args.file.now.items c.args.test.now c.get_mut-in-Some.result.now after c.args.files.now.entries (c.get_mut.follows.lender after).entries found (c.get_mut.follows.holds after).0 c.stage_section.ensures.settled settled

pub returns-in-Some-clause-totals : goal.returns-in-Some-clause-totals
returns-in-Some-clause-totals g c =
    let found = sym c.in-Some.ensures.value ∙ ap Some (sym c.get_mut-in-Some.ensures.value) in
    let after = c.stage_section.new.self in
    totals_of_both c.stage_section.result _ _
    (λ adds t is. found_totals c.args.file.now.items c.args.test.now c.args.items.now c.args.files.now.entries c.requires c.get_mut-in-Some.result.now found after (c.get_mut.follows.lender after).entries c.get_mut.ensures.ordered
    (c.get_mut.follows.holds after).0 adds t.0 t.1 is.0 is.1)
    c.stage_section.ensures.ok c.stage_section.ensures.totals

-- ---- the file is new, so the map is as it was

pub stage_in_new_file-requires-clause-room : goal.stage_in_new_file-requires-clause-room
stage_in_new_file-requires-clause-room g c =
    let items = c.args.items.now in
    subst (λ (m : BTreeMap (Vec ℕ g.row.A.Denot) (File g.row.A.Denot)). HasRoomAmong (rows_of_items c.as_slice-name.result.now c.args.test.now items) (files_staged file_name m.entries)) (sym c.get_mut.follows.holds-at-none)
    (subst (λ (file : List ℕ). HasRoomAmong (rows_of_items file c.args.test.now items) (files_staged file_name c.args.files.now.entries)) (sym c.as_slice-name.ensures.value) c.requires)

pub stage_in_new_file-requires-clause-new : goal.stage_in_new_file-requires-clause-new
stage_in_new_file-requires-clause-new g c =
    subst (λ (m : BTreeMap (Vec ℕ g.row.A.Denot) (File g.row.A.Denot)). lookup (is_at (λ (other : Vec ℕ g.row.A.Denot). slice_cmp nat_cmp c.as_slice-name.result.now other.items)) m.entries ≡ None) (sym c.get_mut.follows.holds-at-none)
    (subst (λ (file : List ℕ). lookup (is_at (λ (other : Vec ℕ g.row.A.Denot). slice_cmp nat_cmp file other.items)) c.args.files.now.entries ≡ None) (sym c.as_slice-name.ensures.value) (sym c.in_default.ensures.value))

pub returns-clause-committed : goal.returns-clause-committed
returns-clause-committed g c =
    subst (λ (m : BTreeMap (Vec ℕ g.row.A.Denot) (File g.row.A.Denot)). KeepsState (files_committed file_name m.entries) (files_committed file_name c.stage_in_new_file.new.files.entries)) c.get_mut.follows.holds-at-none
    c.stage_in_new_file.ensures.committed

pub returns-clause-ok : goal.returns-clause-ok
returns-clause-ok g c =
    let items = c.args.items.now in
    let later = files_staged file_name c.stage_in_new_file.new.files.entries in
    subst (λ (m : BTreeMap (Vec ℕ g.row.A.Denot) (File g.row.A.Denot)). OnOk c.stage_in_new_file.result (AddsTo (rows_of_items c.args.file.now.items c.args.test.now items) (files_staged file_name m.entries) later)) c.get_mut.follows.holds-at-none
    (subst (λ (file : List ℕ). OnOk c.stage_in_new_file.result (AddsTo (rows_of_items file c.args.test.now items) (files_staged file_name c.get_mut.follows.lender-at-none.entries) later)) c.as_slice-name.ensures.value
    c.stage_in_new_file.ensures.ok)

pub returns-clause-totals : goal.returns-clause-totals
returns-clause-totals g c =
    subst (λ (m : BTreeMap (Vec ℕ g.row.A.Denot) (File g.row.A.Denot)). IfOk c.stage_in_new_file.result (λ t. IsExchange t.0 t.1 (totals_in (files_staged file_name m.entries)) (totals_in (files_staged file_name c.stage_in_new_file.new.files.entries)))) c.get_mut.follows.holds-at-none
    c.stage_in_new_file.ensures.totals

pub returns-clause-clash : goal.returns-clause-clash
returns-clause-clash g c =
    let items = c.args.items.now in
    subst (λ (m : BTreeMap (Vec ℕ g.row.A.Denot) (File g.row.A.Denot)). IfErr c.stage_in_new_file.result (λ e. ClashesAmong (rows_of_items c.args.file.now.items c.args.test.now items) (files_staged file_name m.entries) (refuse_data e)))
    c.get_mut.follows.holds-at-none
    (subst (λ (file : List ℕ). IfErr c.stage_in_new_file.result (λ e. ClashesAmong (rows_of_items file c.args.test.now items) (files_staged file_name c.get_mut.follows.lender-at-none.entries) (refuse_data e))) c.as_slice-name.ensures.value
    c.stage_in_new_file.ensures.clash)

pub returns-clause-settled : goal.returns-clause-settled
returns-clause-settled g c = λ touched settled.
    subst (λ (file : List ℕ). AreSettledBut file_name (touched ++ (file, c.args.test.now) ∷ []) c.stage_in_new_file.new.files.entries) c.as_slice-name.ensures.value
    (c.stage_in_new_file.ensures.settled touched
    (subst (λ (m : BTreeMap (Vec ℕ g.row.A.Denot) (File g.row.A.Denot)). AreSettledBut file_name touched m.entries) (sym c.get_mut.follows.holds-at-none) settled))

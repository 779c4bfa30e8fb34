use Rattle.covstore.proofs.Words.{ℕ, List, [], ◌∷◌, ◌++◌, sym, ap, ◌∙◌, subst, err_from_is_err_and, AddsTo, ClashesAmong, SameCommitted, StoreData, AreSettledBut, files_committed, files_staged, touched_data, FileData, totals_in}
use Rattle.covstore.specs.StoreSection.{HasRoomAmong, rows_of_items}
use Rattle.covtable.specs.RefuseView.{refuse_data}
use Rattle.covstore.proofs.AddsReady.{exchange_in, held_kept, room_among}
use Rattle.covstore.proofs.AddsStore.{same_committed}
use Rattle.covstore.proofs.Settled.{file_name, last_there}
use Rattle.covstore.proofs.StoreKept.{store_kept}
use Rattle.covstore.proofs.store.Store.stage_items.Goals as goal

pub returns-in_err-push-clause-committed : goal.returns-in_err-push-clause-committed
returns-in_err-push-clause-committed g c = subst (SameCommitted c.args.self.now) (sym c.self.view_is) (same_committed c.args.self.now)

pub last_file-path-requires : goal.last_file-path-requires
last_file-path-requires g c = λ none.
    last_there c.push.new.touched.items (touched_data c.self.inside.touched.items) c.args.file.now c.args.test.now c.in_ok-push.ensures.ok (sym c.as_slice.ensures.value ∙ none)

pub stage_in_files-requires : goal.stage_in_files-requires
stage_in_files-requires g c =
    let rows = rows_of_items c.args.file.now c.args.test.now c.args.items.now in
    let file_is = c.last_file-path.ensures (touched_data c.self.inside.touched.items) c.args.file.now c.args.test.now (ap touched_data c.as_slice.ensures.value ∙ c.in_ok-push.ensures.ok) in
    subst (λ (file : List ℕ). HasRoomAmong (rows_of_items file c.args.test.now c.args.items.now) (files_staged file_name c.self.inside.files.entries)) (sym file_is)
    (subst (HasRoomAmong rows) (sym (ap (λ (s : StoreData). s.staged) c.self.view_is)) (room_among rows c.args.self.now c.requires))

-- the store is consistent, except for what is staged

pub invariant_of-self-in_err-totals : goal.invariant_of-self-in_err-totals
invariant_of-self-in_err-totals g c =
    let inside = c.self.inside in
    let added = c.stage_in_files.ensures in
    let later = c.stage_in_files.new.files.entries in
    let file_is = c.last_file-path.ensures (touched_data c.self.inside.touched.items) c.args.file.now c.args.test.now (ap touched_data c.as_slice.ensures.value ∙ c.in_ok-push.ensures.ok) in (
      store_kept inside.members inside.totals (files_committed file_name inside.files.entries) (files_committed file_name later) added.committed c.self.invariant.0,
      subst (λ touched. AreSettledBut file_name touched later) (ap (λ (file : List ℕ). touched_data inside.touched.items ++ (file, c.args.test.now) ∷ []) file_is ∙ sym c.in_ok-push.ensures.ok) (added.settled (touched_data inside.touched.items) c.self.invariant.1),
    )

pub invariant_of-self-2 : goal.invariant_of-self-2
invariant_of-self-2 g c =
    let inside = c.self.inside in
    let added = c.stage_in_files.ensures in
    let later = c.stage_in_files.new.files.entries in
    let file_is = c.last_file-path.ensures (touched_data c.self.inside.touched.items) c.args.file.now c.args.test.now (ap touched_data c.as_slice.ensures.value ∙ c.in_ok-push.ensures.ok) in (
      store_kept inside.members inside.totals (files_committed file_name inside.files.entries) (files_committed file_name later) added.committed c.self.invariant.0,
      subst (λ touched. AreSettledBut file_name touched later) (ap (λ (file : List ℕ). touched_data inside.touched.items ++ (file, c.args.test.now) ∷ []) file_is ∙ sym c.in_ok-push.ensures.ok) (added.settled (touched_data inside.touched.items) c.self.invariant.1),
    )

pub returns-in_err-totals-clause-committed : goal.returns-in_err-totals-clause-committed
returns-in_err-totals-clause-committed g c =
    let inside = c.self.inside in
    let files = inside.files.entries in
    let later = c.stage_in_files.new.files.entries in
    held_kept inside.members inside.totals (files_committed file_name files) (files_committed file_name later) (files_staged file_name files) (files_staged file_name later) inside.totals_after inside.totals_after c.args.self.now
    c.self.invariant.0 c.stage_in_files.ensures.committed c.self.view_is

pub returns-clause-committed : goal.returns-clause-committed
returns-clause-committed g c =
    let inside = c.self.inside in
    let files = inside.files.entries in
    let later = c.stage_in_files.new.files.entries in
    held_kept inside.members inside.totals (files_committed file_name files) (files_committed file_name later) (files_staged file_name files) (files_staged file_name later) inside.totals_after c.exchanged-self-inside.result c.args.self.now
    c.self.invariant.0 c.stage_in_files.ensures.committed c.self.view_is

-- what the call ensures of the rows and the totals

pub returns-in_err-totals-clause-clash : goal.returns-in_err-totals-clause-clash
returns-in_err-totals-clause-clash g c =
    let rows = rows_of_items c.args.file.now c.args.test.now c.args.items.now in
    let p = err_from_is_err_and c.from_residual-in_err-totals.result c.from_residual-in_err-totals.ensures.1 in
    let file_is = c.last_file-path.ensures (touched_data c.self.inside.touched.items) c.args.file.now c.args.test.now (ap touched_data c.as_slice.ensures.value ∙ c.in_ok-push.ensures.ok) in
    let clash = subst (λ (file : List ℕ). ClashesAmong (rows_of_items file c.args.test.now c.args.items.now) (files_staged file_name c.self.inside.files.entries) (refuse_data c.in_err-totals.field-0.0)) file_is
    c.in_err-totals.ensures.clash in
    rw (p.1, p.2) (subst (λ (files : List (List ℕ × FileData)). ClashesAmong rows files (refuse_data c.in_err-totals.field-0.0)) (ap (λ (s : StoreData). s.staged) c.self.view_is) clash)

pub exchanged-self-inside-requires-clause-part : goal.exchanged-self-inside-requires-clause-part
exchanged-self-inside-requires-clause-part g c =
    let rows = rows_of_items c.args.file.now c.args.test.now c.args.items.now in
    let inside = c.self.inside in
    (exchange_in rows inside.members (files_committed file_name inside.files.entries) (files_staged file_name inside.files.entries) inside.totals_after c.args.self.now c.self.view_is c.requires
    (totals_in (files_staged file_name c.stage_in_files.new.files.entries)) c.in_ok-totals.totals.0 c.in_ok-totals.totals.1 c.in_ok-totals.ensures.totals).part

pub exchanged-self-inside-requires-clause-fits : goal.exchanged-self-inside-requires-clause-fits
exchanged-self-inside-requires-clause-fits g c =
    let rows = rows_of_items c.args.file.now c.args.test.now c.args.items.now in
    let inside = c.self.inside in
    (exchange_in rows inside.members (files_committed file_name inside.files.entries) (files_staged file_name inside.files.entries) inside.totals_after c.args.self.now c.self.view_is c.requires
    (totals_in (files_staged file_name c.stage_in_files.new.files.entries)) c.in_ok-totals.totals.0 c.in_ok-totals.totals.1 c.in_ok-totals.ensures.totals).fits

pub returns-clause-ok : goal.returns-clause-ok
returns-clause-ok g c =
    let rows = rows_of_items c.args.file.now c.args.test.now c.args.items.now in
    let inside = c.self.inside in
    let later = files_staged file_name c.stage_in_files.new.files.entries in
    let file_is = c.last_file-path.ensures (touched_data c.self.inside.touched.items) c.args.file.now c.args.test.now (ap touched_data c.as_slice.ensures.value ∙ c.in_ok-push.ensures.ok) in
    let adds = subst (λ (file : List ℕ). AddsTo (rows_of_items file c.args.test.now c.args.items.now) (files_staged file_name inside.files.entries) later) file_is c.in_ok-totals.ensures.ok in
    record {
      adds = subst (λ (files : List (List ℕ × FileData)). AddsTo rows files later) (ap (λ (s : StoreData). s.staged) c.self.view_is) adds;
      totals = λ is. c.exchanged-self-inside.ensures ∙ (exchange_in rows inside.members (files_committed file_name inside.files.entries) (files_staged file_name inside.files.entries) inside.totals_after c.args.self.now c.self.view_is c.requires
          (totals_in (files_staged file_name c.stage_in_files.new.files.entries)) c.in_ok-totals.totals.0 c.in_ok-totals.totals.1 c.in_ok-totals.ensures.totals).gives;
    }

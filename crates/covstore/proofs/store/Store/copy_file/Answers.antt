use Rattle.covstore.proofs.Words.{ℕ, List, [], ◌∷◌, ◌++◌, sym, ap, ◌∙◌, subst, Some, OnOk, on_ok_weaker, Copies, HasRoomToCopy, files_staged, touched_data}
use Rattle.covstore.proofs.RenamedStore.{copied_committed, copied_room, copied_same, copied_store, copied_to, unfound}
use Rattle.covstore.proofs.Settled.{file_name, last_there}
use Rattle.covstore.proofs.store.Store.copy_file.Goals as goal

pub last_file-path-requires : goal.last_file-path-requires
last_file-path-requires g c = λ none.
    last_there c.push.new.touched.items (touched_data c.self.inside.touched.items) c.args.file.now c.args.new.now c.in_ok-push.ensures.ok (sym c.as_slice.ensures.value ∙ none)

-- the store has the file, since the old test has values in it
pub unreachable-requires : goal.unreachable-requires
unreachable-requires g c =
    let first = c.self.inside in
    let file_is = c.last_file-path.ensures (touched_data first.touched.items) c.args.file.now c.args.new.now (ap touched_data c.as_slice.ensures.value ∙ c.in_ok-push.ensures.ok) in
    let name = c.last_file-path.result.now.items in
    let room = subst (λ (file : List ℕ). HasRoomToCopy file c.args.old.now c.args.self.now) (sym file_is) c.requires.room in
    unfound first.files.entries first.members first.totals_after name c.args.old.now c.args.new.now c.args.self.now c.self.view_is room (sym c.in_default.ensures.value)

pub copy_test-requires-clause-room : goal.copy_test-requires-clause-room
copy_test-requires-clause-room g c =
    let first = c.self.inside in
    let file_is = c.last_file-path.ensures (touched_data first.touched.items) c.args.file.now c.args.new.now (ap touched_data c.as_slice.ensures.value ∙ c.in_ok-push.ensures.ok) in
    let name = c.last_file-path.result.now.items in
    let room = subst (λ (file : List ℕ). HasRoomToCopy file c.args.old.now c.args.self.now) (sym file_is) c.requires.room in
    copied_room first.files.entries first.members first.totals_after name c.args.old.now c.args.new.now c.args.self.now c.self.view_is room c.get_mut-2.result.now (sym c.in-Some.ensures.value ∙ ap Some (sym c.get_mut-2.ensures.value))

pub copy_test-requires-clause-same : goal.copy_test-requires-clause-same
copy_test-requires-clause-same g c =
    let first = c.self.inside in
    let file_is = c.last_file-path.ensures (touched_data first.touched.items) c.args.file.now c.args.new.now (ap touched_data c.as_slice.ensures.value ∙ c.in_ok-push.ensures.ok) in
    let name = c.last_file-path.result.now.items in
    let room = subst (λ (file : List ℕ). HasRoomToCopy file c.args.old.now c.args.self.now) (sym file_is) c.requires.room in
    copied_same first.files.entries first.members first.totals_after name c.args.old.now c.args.new.now c.args.self.now c.self.view_is room c.get_mut-2.result.now (sym c.in-Some.ensures.value ∙ ap Some (sym c.get_mut-2.ensures.value))

pub invariant_of-self-2 : goal.invariant_of-self-2
invariant_of-self-2 g c =
    let first = c.self.inside in
    let file_is = c.last_file-path.ensures (touched_data first.touched.items) c.args.file.now c.args.new.now (ap touched_data c.as_slice.ensures.value ∙ c.in_ok-push.ensures.ok) in
    let name = c.last_file-path.result.now.items in
    let room = subst (λ (file : List ℕ). HasRoomToCopy file c.args.old.now c.args.self.now) (sym file_is) c.requires.room in
    let after = c.copy_test.new.self in
    copied_store first.files.entries first.members first.totals_after name c.args.old.now c.args.new.now c.args.self.now c.self.view_is room c.get_mut-2.result.now (sym c.in-Some.ensures.value ∙ ap Some (sym c.get_mut-2.ensures.value))
    after (c.get_mut.follows.lender after).entries c.get_mut.ensures.ordered (c.get_mut.follows.holds after).0
    first.totals (touched_data first.touched.items) (touched_data c.push.new.touched.items) c.self.invariant c.copy_test.ensures.committed (c.in_ok-push.ensures.ok ∙ ap (λ (file : List ℕ). touched_data first.touched.items ++ (file, c.args.new.now) ∷ []) (sym file_is)) c.copy_test.ensures.settled

pub returns-clause-committed : goal.returns-clause-committed
returns-clause-committed g c =
    let first = c.self.inside in
    let file_is = c.last_file-path.ensures (touched_data first.touched.items) c.args.file.now c.args.new.now (ap touched_data c.as_slice.ensures.value ∙ c.in_ok-push.ensures.ok) in
    let name = c.last_file-path.result.now.items in
    let room = subst (λ (file : List ℕ). HasRoomToCopy file c.args.old.now c.args.self.now) (sym file_is) c.requires.room in
    let after = c.copy_test.new.self in
    copied_committed first.files.entries first.members first.totals_after name c.args.old.now c.args.new.now c.args.self.now c.self.view_is room c.get_mut-2.result.now (sym c.in-Some.ensures.value ∙ ap Some (sym c.get_mut-2.ensures.value))
    after (c.get_mut.follows.lender after).entries c.get_mut.ensures.ordered (c.get_mut.follows.holds after).0
    first.totals c.self.invariant.0 c.copy_test.ensures.committed first.totals_after

pub returns-clause-ok : goal.returns-clause-ok
returns-clause-ok g c =
    let first = c.self.inside in
    let file_is = c.last_file-path.ensures (touched_data first.touched.items) c.args.file.now c.args.new.now (ap touched_data c.as_slice.ensures.value ∙ c.in_ok-push.ensures.ok) in
    let name = c.last_file-path.result.now.items in
    let room = subst (λ (file : List ℕ). HasRoomToCopy file c.args.old.now c.args.self.now) (sym file_is) c.requires.room in
    let after = c.copy_test.new.self in
    subst (λ (file : List ℕ). OnOk c.copy_test.result (Copies file c.args.old.now c.args.new.now c.args.self.now.staged (files_staged file_name (c.get_mut.follows.lender after).entries))) file_is
    (on_ok_weaker c.copy_test.result
    (copied_to first.files.entries first.members first.totals_after name c.args.old.now c.args.new.now c.args.self.now c.self.view_is room c.get_mut-2.result.now (sym c.in-Some.ensures.value ∙ ap Some (sym c.get_mut-2.ensures.value))
    after (c.get_mut.follows.lender after).entries c.get_mut.ensures.ordered (c.get_mut.follows.holds after).0)
    c.copy_test.ensures.ok)

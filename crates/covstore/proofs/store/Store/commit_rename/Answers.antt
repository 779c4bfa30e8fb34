use Rattle.covstore.proofs.Words.{◌≡◌, ℕ, Option, Some, List, sym, subst, AreWithoutTest, AreSettledBut, files_staged, files_committed, touched_data, IsMoving, IsMovingIfAny, FileData, IsConsistentFile, StandsFor, StoreData, all_rows, AllByRecursion}
use Rattle.covstore.specs.declared.store.Touched.{Touched}
use Rattle.covstore.proofs.RenamedTablesState.{stands_moved, store_moved}
use Rattle.covstore.proofs.Settled.{file_name}
use Rattle.covstore.proofs.Stores.{store_of}
use Rattle.covstore.proofs.WithoutStores.{whole_files}
use Rattle.covstore.proofs.store.Store.commit_rename.Goals as goal

-- the staged files are the state of the rows and the moved rows
moving : (store inside : StoreData) → inside ≡ store → (old new leaves : List ℕ) (told : Option (List ℕ)) → Some leaves ≡ told → IsMovingIfAny store old new told → IsMoving inside old new leaves
moving store inside view old new leaves told is given =
    subst (λ (s : StoreData). IsMoving s old new leaves) (sym view) (subst (IsMovingIfAny store old new) (sym is) given)

pub drop_from_files-requires : goal.drop_from_files-requires
drop_from_files-requires g c =
    let inside = c.self.inside in
    let first = store_of inside.members (files_committed file_name inside.files.entries) (files_staged file_name inside.files.entries) inside.totals_after in
    let is = moving c.args.self.now first c.self.view_is c.requires.0 c.requires.1 c.in-Some.old.now c.args.renaming.leaves c.in-Some.ensures c.requires.2 in
    whole_files file_name c.commit_staged.new.files.entries
    (subst (λ (files : List (List ℕ × FileData)). AllByRecursion (λ pair. IsConsistentFile pair.1) files) (sym c.commit_staged.ensures.committed) (is.moves (all_rows c.self.invariant.0.own) c.self.invariant.0.state).whole)

pub invariant_of-self : goal.invariant_of-self
invariant_of-self g c =
    let inside = c.self.inside in
    let staged = files_staged file_name inside.files.entries in
    let first = store_of inside.members (files_committed file_name inside.files.entries) staged inside.totals_after in
    let after = files_committed file_name c.drop_from_files.new.files.entries in
    let are = subst (λ (files : List (List ℕ × FileData)). AreWithoutTest c.in-Some.old.now files after) c.commit_staged.ensures.committed (c.drop_from_files.ensures.committed file_name) in
    let settled = subst (λ (left : List (Touched g.row.A.Denot)). AreSettledBut file_name (touched_data left) c.commit_staged.new.files.entries) (sym c.commit_staged.ensures.none) c.commit_staged.ensures.settled in (
      store_moved c.requires.0 c.requires.1 c.in-Some.old.now inside.members inside.totals inside.totals_after (files_committed file_name inside.files.entries) staged after c.self.invariant.0
          (moving c.args.self.now first c.self.view_is c.requires.0 c.requires.1 c.in-Some.old.now c.args.renaming.leaves c.in-Some.ensures c.requires.2) are,
      c.drop_from_files.ensures.settled file_name (touched_data c.commit_staged.new.touched.items) settled,
    )

pub returns-in-Some : goal.returns-in-Some
returns-in-Some g c =
    let inside = c.self.inside in
    let staged = files_staged file_name inside.files.entries in
    let first = store_of inside.members (files_committed file_name inside.files.entries) staged inside.totals_after in
    let later = c.drop_from_files.new.files.entries in
    let after = files_committed file_name later in
    let are = subst (λ (files : List (List ℕ × FileData)). AreWithoutTest c.in-Some.old.now files after) c.commit_staged.ensures.committed (c.drop_from_files.ensures.committed file_name) in
    record {
      stands = λ old new table given stands.
          stands_moved old new c.in-Some.old.now inside.members inside.totals inside.totals_after (files_committed file_name inside.files.entries) staged after c.self.invariant.0 (moving c.args.self.now first c.self.view_is old new c.in-Some.old.now c.args.renaming.leaves c.in-Some.ensures given) are
          (files_staged file_name later) inside.totals_after table (subst (λ (store : StoreData). StandsFor store table) (sym c.self.view_is) stands);
    }

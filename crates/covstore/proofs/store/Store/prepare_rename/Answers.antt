use Rattle.covstore.proofs.Words.{◌≡◌, ◌≢◌, ℕ, List, sym, ap, ◌∙◌, subst, eqb-true, false≢true, nil_from_length, bytes_eq-Decides, IsMovingIfAny, names_with, StandsFor, StoreData, files_committed, Table}
use Rattle.std.specs.Prelude.{◌==◌}
use Rattle.covmap.proofs.SlotWrites.{on_err}
use Rattle.covtable.specs.Renamed.{renamed}
use Rattle.covtable.specs.Without.{sections_of_test}
use Rattle.covtable.proofs.RenamedTables.{renamed_none_counted, renamed_same}
use Rattle.covstore.proofs.Settled.{file_name}
use Rattle.covstore.proofs.WithoutStores.{names_counted, sections_named, sections_with}
use Rattle.covstore.proofs.store.Store.prepare_rename.Goals as goal

-- the old and the new name are the same

pub returns-then-eq-clause-planned : goal.returns-then-eq-clause-planned
returns-then-eq-clause-planned g c =
    let old = c.args.old.now in
    let new = c.args.new.now in
    subst (IsMovingIfAny c.rollback.new.self old new) (sym c.none.ensures.leaves)
    (λ table stands. subst (λ (name : List ℕ). renamed old name table ≡ table) ((bytes_eq-Decides old new).0 (sym c.eq.ensures ∙ c.if-eq.true)) (renamed_same old table))

pub returns-then-eq-clause-sections : goal.returns-then-eq-clause-sections
returns-then-eq-clause-sections g c = λ table stands.
    let inside = c.self.inside in
    c.none.ensures.sections ∙ c.count_sections.ensures
    ∙ sections_with c.args.old.now inside.members inside.totals (files_committed file_name inside.files.entries) c.self.invariant.0 table
    (ap (λ (store : StoreData). store.sections) c.self.view_is ∙ c.rollback.ensures.sections ∙ stands.content)

-- there are as many names of files as sections of the test

pub returns-in_err-names-clause-some : goal.returns-in_err-names-clause-some
returns-in_err-names-clause-some g c =
    let inside = c.self.inside in
    let files = files_committed file_name inside.files.entries in
    let some : (table : Table) → StandsFor c.args.self.now table → sections_of_test c.args.old.now table ≢ 0 = λ table stands none.
    c.in_err-names.ensures.some
    (nil_from_length (names_with c.args.old.now files)
    (sections_named c.args.old.now inside.members inside.totals files c.self.invariant.0 table (ap (λ (store : StoreData). store.sections) c.self.view_is ∙ c.rollback.ensures.sections ∙ stands.content) ∙ none)) in
    on_err _ some

pub returns-then-is_empty-clause-planned : goal.returns-then-is_empty-clause-planned
returns-then-is_empty-clause-planned g c =
    let inside = c.self.inside in
    let names = c.in_ok-names.names in
    subst (IsMovingIfAny c.rollback.new.self c.args.old.now c.args.new.now) (sym c.none-then-is_empty.ensures.leaves)
    (λ table stands.
    let counted = names_counted c.args.old.now inside.members inside.totals (files_committed file_name inside.files.entries) c.self.invariant.0 file_name names.items names.len names.ok.0 c.in_ok-names.ensures.names table
    (ap (λ (store : StoreData). store.sections) c.self.view_is ∙ stands.content) in
    renamed_none_counted c.args.old.now c.args.new.now table (sym counted ∙ eqb-true names.len 0 (sym c.is_empty.ensures ∙ c.if-is_empty.true)))

pub returns-then-is_empty-clause-sections : goal.returns-then-is_empty-clause-sections
returns-then-is_empty-clause-sections g c = λ table stands.
    let inside = c.self.inside in
    let names = c.in_ok-names.names in
    c.none-then-is_empty.ensures.sections ∙ sym (eqb-true names.len 0 (sym c.is_empty.ensures ∙ c.if-is_empty.true))
    ∙ names_counted c.args.old.now inside.members inside.totals (files_committed file_name inside.files.entries) c.self.invariant.0 file_name names.items names.len names.ok.0 c.in_ok-names.ensures.names table
    (ap (λ (store : StoreData). store.sections) c.self.view_is ∙ c.rollback.ensures.sections ∙ stands.content)

pub returns-in_err-leaves-clause-some : goal.returns-in_err-leaves-clause-some
returns-in_err-leaves-clause-some g c =
    let inside = c.self.inside in
    let names = c.in_ok-names.names in
    let some : (table : Table) → StandsFor c.args.self.now table → sections_of_test c.args.old.now table ≢ 0 = λ table stands none.
    let counted = names_counted c.args.old.now inside.members inside.totals (files_committed file_name inside.files.entries) c.self.invariant.0 file_name names.items names.len names.ok.0 c.in_ok-names.ensures.names table
    (ap (λ (store : StoreData). store.sections) c.self.view_is ∙ c.rollback.ensures.sections ∙ stands.content) in
    false≢true (sym c.if-is_empty.false ∙ c.is_empty.ensures ∙ ap (λ (n : ℕ). n == 0) (counted ∙ none)) in
    on_err _ some

pub returns-in-Ok-clause-sections : goal.returns-in-Ok-clause-sections
returns-in-Ok-clause-sections g c = λ table stands.
    let inside = c.self.inside in
    let names = c.in_ok-names.names in
    c.of.ensures.sections ∙ c.len.ensures
    ∙ names_counted c.args.old.now inside.members inside.totals (files_committed file_name inside.files.entries) c.self.invariant.0 file_name names.items names.len names.ok.0 c.in_ok-names.ensures.names table
    (ap (λ (store : StoreData). store.sections) c.self.view_is ∙ c.rollback.ensures.sections ∙ stands.content)

pub returns-clause-some : goal.returns-clause-some
returns-clause-some g c =
    let inside = c.self.inside in
    let names = c.in_ok-names.names in
    let some : (table : Table) → StandsFor c.args.self.now table → sections_of_test c.args.old.now table ≢ 0 = λ table stands none.
    let counted = names_counted c.args.old.now inside.members inside.totals (files_committed file_name inside.files.entries) c.self.invariant.0 file_name names.items names.len names.ok.0 c.in_ok-names.ensures.names table
    (ap (λ (store : StoreData). store.sections) c.self.view_is ∙ c.rollback.ensures.sections ∙ stands.content) in
    false≢true (sym c.if-is_empty.false ∙ c.is_empty.ensures ∙ ap (λ (n : ℕ). n == 0) (counted ∙ none)) in
    some

pub copy_all-requires-clause-apart : goal.copy_all-requires-clause-apart
copy_all-requires-clause-apart g c = λ same. false≢true (sym c.if-eq.false ∙ c.eq.ensures ∙ (bytes_eq-Decides c.args.old.now c.args.new.now).1 same)

use Rattle.covstore.proofs.Words.{◌≡◌, sym, ap, ◌∙◌, subst, files_staged, files_committed, touched_data, totals_in, StandsFor, StoreData}
use Rattle.covstore.proofs.Settled.{file_name}
use Rattle.covstore.proofs.WithoutState.{store_without}
use Rattle.covstore.proofs.WithoutStores.{stands_left, stands_too, totals_told, whole_files}
use Rattle.covstore.proofs.store.Store.drop_leaving.Goals as goal

pub drop_from_files-requires : goal.drop_from_files-requires
drop_from_files-requires g c = whole_files file_name c.self.inside.files.entries c.self.invariant.0.state.whole

pub invariant_of-self : goal.invariant_of-self
invariant_of-self g c =
    let inside = c.self.inside in
    let files = files_committed file_name inside.files.entries in
    let after = files_committed file_name c.drop_from_files.new.files.entries in
    let are = c.drop_from_files.ensures.committed file_name in
    let sections = ap (λ (store : StoreData). store.sections) c.self.view_is ∙ c.rollback.ensures.sections in
    let members = ap (λ (store : StoreData). store.members) c.self.view_is ∙ c.rollback.ensures.members in
    let told : c.args.totals ≡ totals_in after = totals_told c.args.test.now inside.members inside.totals files c.self.invariant.0 c.args.self.now (sym sections) (sym members) c.args.totals c.requires after are in (
      store_without c.args.test.now inside.members inside.totals files after c.self.invariant.0 are c.args.totals told,
      c.drop_from_files.ensures.settled file_name (touched_data inside.touched.items) c.self.invariant.1,
    )

pub returns : goal.returns
returns g c = λ table stands.
    let inside = c.self.inside in
    let before = files_committed file_name inside.files.entries in
    let after = files_committed file_name c.drop_from_files.new.files.entries in
    let forgotten = stands_too c.args.self.now c.rollback.new.self table c.rollback.ensures.sections c.rollback.ensures.members stands in
    stands_left c.args.test.now inside.members inside.totals before c.self.invariant.0 after (c.drop_from_files.ensures.committed file_name)
    (files_staged file_name inside.files.entries) (files_staged file_name c.drop_from_files.new.files.entries) inside.totals_after c.args.totals table
    (subst (λ (store : StoreData). StandsFor store table) (sym c.self.view_is) forgotten)

use Rattle.covstore.proofs.Words.{[], ◌∷◌, ◌++◌, refl, sym, subst, List, ◌+◌, rows_of, AreSettledBut, files_staged, files_committed, touched_data, IsPlanOf, StandsFor, StoreData}
use Rattle.covstore.specs.declared.store.Touched.{Touched}
use Rattle.covstore.proofs.Settled.{file_name}
use Rattle.covstore.proofs.Stores.{same_members, stands_more, stands_same, store_more}
use Rattle.covstore.proofs.store.Store.commit.Goals as goal

pub invariant_of-self : goal.invariant_of-self
invariant_of-self g c =
    let first = c.self.inside in
    let files = c.commit_staged.new.files.entries in
    let p = subst (λ (store : StoreData). IsPlanOf store c.requires.0 c.args.plan) (sym c.self.view_is) c.requires.1 in (
      same_members (first.members + 1) (first.members + 1) refl c.after-self-inside.ensures.value c.commit_staged.ensures.committed
          (store_more first.members first.totals (files_committed file_name first.files.entries) (files_staged file_name first.files.entries) first.totals_after c.self.invariant.0 c.requires.0 c.args.plan p),
      subst (λ (left : List (Touched g.row.A.Denot)). AreSettledBut file_name (touched_data left) files) (sym c.commit_staged.ensures.none) c.commit_staged.ensures.settled,
    )

pub returns : goal.returns
returns g c =
    let first = c.self.inside in
    let files = c.commit_staged.new.files.entries in
    let staged = files_staged file_name first.files.entries in
    record {
      stands = λ s table plan stands.
          stands_same (table ++ rows_of s ∷ []) (first.members + 1) (first.members + 1) (files_committed file_name files) (files_staged file_name files) staged c.after-self-inside.result c.args.plan.after
          refl c.commit_staged.ensures.committed
          (stands_more first.members first.totals (files_committed file_name first.files.entries) staged first.totals_after c.self.invariant.0 s c.args.plan
          (subst (λ (store : StoreData). IsPlanOf store s c.args.plan) (sym c.self.view_is) plan) table
          (subst (λ (store : StoreData). StandsFor store table) (sym c.self.view_is) stands));
    }

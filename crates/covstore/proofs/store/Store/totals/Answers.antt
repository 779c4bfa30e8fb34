use Rattle.covstore.proofs.Words.{ap, ◌∙◌, StoreData, files_committed, totals_of}
use Rattle.covstore.proofs.Settled.{file_name}
use Rattle.covstore.proofs.Stores.{store_bounds, store_totals}
use Rattle.covstore.proofs.store.Store.totals.Goals as goal

pub returns-clause-value : goal.returns-clause-value
returns-clause-value g c =
    let inside = c.self.inside in
    store_totals inside.members inside.totals (files_committed file_name inside.files.entries) c.self.invariant.0
    ∙ ap (λ (store : StoreData). totals_of store.sections) c.self.view_is

pub returns-clause-bounds : goal.returns-clause-bounds
returns-clause-bounds g c =
    let inside = c.self.inside in
    store_bounds inside.members inside.totals (files_committed file_name inside.files.entries) c.self.invariant.0

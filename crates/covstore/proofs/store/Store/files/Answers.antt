use Rattle.covstore.proofs.Words.{Vec, ℕ, List, sym, ap, ◌∙◌, File, StoreData, files_committed}
use Rattle.covtable.specs.Files.{files_with_totals}
use Rattle.covstore.specs.FilesView.{files_with_points}
use Rattle.covstore.proofs.FilesTotals.{files_of_store}
use Rattle.covstore.proofs.Settled.{file_name}
use Rattle.covstore.proofs.store.Store.files.Goals as goal

pub returns : goal.returns
returns g c =
    let inside = c.self.inside in
    c.of.ensures ∙ ap (λ (pairs : List (Vec ℕ g.row.A.Denot × File g.row.A.Denot)). files_with_points (files_committed file_name pairs)) c.iter.ensures.rest
    ∙ sym (files_of_store inside.members inside.totals (files_committed file_name inside.files.entries) c.self.invariant.0)
    ∙ ap (λ (store : StoreData). files_with_totals store.sections) c.self.view_is

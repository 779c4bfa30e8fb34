use Rattle.covstore.proofs.Words.{Vec, ℕ, sym, subst, AllByRecursion, files_committed, sections_of}
use Rattle.covstore.specs.ContentView.{IsFewOf}
use Rattle.covstore.proofs.SeenStore.{few_of_store}
use Rattle.covstore.proofs.store.Store.sections.Goals as goal

pub of-requires : goal.of-requires
of-requires g c =
    let name = λ (key : Vec ℕ g.row.A.Denot). key.items in
    subst (λ pairs. AllByRecursion IsFewOf (sections_of (files_committed name pairs))) (sym c.iter.ensures.rest) (few_of_store c.self.inside.members c.self.inside.totals (files_committed name c.self.inside.files.entries) c.self.invariant.0)

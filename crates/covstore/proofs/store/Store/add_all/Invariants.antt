use Rattle.covstore.proofs.Words.{◌≡◌, ◌++◌, List, SectData}
use Rattle.covstore.proofs.AddsStore.{HasTakenSects}
use Rattle.covstore.proofs.store.Store.add_all.Given as goal

abbrev pub invariant-loop-sect : goal.invariant-loop-sect
invariant-loop-sect g l = (taken : List SectData) × (taken ++ l.sect-iterator ≡ l.fn.sects) × HasTakenSects taken l.sect-iterator l.initial.self l.self

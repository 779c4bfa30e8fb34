-- A store whose sections are those of its committed files.
use Rattle.std.specs.Prelude.{◌≡◌}
use Rattle.covtable.specs.declared.totals.Totals.{Totals}
use Rattle.covstore.specs.Store.{StoreData}
use Rattle.covstore.specs.StoreView.{IsStore}
use Rattle.covstore.specs.State.{sections_of}

-- the committed files are the state of a table's rows, and have these totals. The store's sections are those of these files
pub record IsKept (store : StoreData) (committed : Totals) : Type 0 where
  pub is : IsStore store.members committed store.committed
  pub seen : store.sections ≡ sections_of store.committed

use Rattle.covstore.proofs.Words.{ℕ, List, sym, subst, Vec, File, Totals, AreSettledBut, IsStore, files_committed, touched_data, no_totals}
use Rattle.covstore.proofs.Settled.{file_name}
use Rattle.covstore.proofs.Stores.{no_store}
use Rattle.covstore.proofs.store.Store.new.Goals as goal

pub invariant_of-result : goal.invariant_of-result
invariant_of-result g c =
    subst (λ (totals : Totals). IsStore 0 totals (files_committed file_name c.new.result.entries) × AreSettledBut file_name (touched_data c.new-2.result.items) c.new.result.entries) (sym c.none.ensures)
    (subst (λ (pairs : List (Vec ℕ g.row.A.Denot × File g.row.A.Denot)). IsStore 0 no_totals (files_committed file_name pairs) × AreSettledBut file_name (touched_data c.new-2.result.items) pairs)
    (sym c.new.ensures.empty) (no_store, tt))

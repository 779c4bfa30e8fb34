-- If a receipt comes after others, its operation comes after theirs.
use Rattle.std.proofs.Common.{◌≡◌, ◌∙◌, ℕ, List, [], ◌∷◌, ◌++◌, ap}
use Rattle.std.proofs.lemmas.List.{map-append}
use Rattle.covbook.specs.Op.{OpData, ReceiptData}
use Rattle.covworkers.specs.Collect.{ops_in}
use Rattle.covworkers.specs.Work.{Asks}

pub asked_more : (receipts after : List ReceiptData) (seen : ℕ) (op : OpData) → Asks receipts after seen op → ops_in after ≡ ops_in receipts ++ op ∷ []
asked_more receipts after seen op asks =
    ap (λ (rs : List ReceiptData). ops_in rs) asks.behind
    ∙ map-append (λ (r : ReceiptData). r.op) receipts (asks.receipt ∷ [])
    ∙ ap (λ (o : OpData). ops_in receipts ++ o ∷ []) asks.asked

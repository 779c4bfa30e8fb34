use Rattle.std.proofs.Common.{◌≡◌, ℕ, IfOk, subst}
use Rattle.covbook.specs.EntryView.{entry_data, receipt_data}
use Rattle.covbook.specs.Step.{receipt_of}
use Rattle.covbook.proofs.history.History.receipt.Goals as goal

pub returns : goal.returns
returns g c = subst (λ (place : ℕ). IfOk c.receipt.result (λ r. receipt_data r ≡ receipt_of place (entry_data c.args.entry.now))) c.place.ensures c.receipt.ensures

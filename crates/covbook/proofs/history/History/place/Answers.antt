use Rattle.std.proofs.Common.{length, sym, ap, ◌∙◌}
use Rattle.std.proofs.lemmas.List.{length-map}
use Rattle.covbook.specs.EntryView.{entry_data}
use Rattle.covbook.proofs.history.History.place.Goals as goal

pub returns : goal.returns
returns g c = sym (length-map c.get.result.now (λ k. entry_data (g.K.Keep.shows k))) ∙ ap length c.get.ensures

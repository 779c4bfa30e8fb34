use Rattle.std.proofs.Common.{sym, ◌∙◌}
use Rattle.std.proofs.lemmas.Bool.{eq-eqb, eqb-true}
use Rattle.covbook.specs.Step.{max_entries}
use Rattle.covbook.proofs.history.History.is_full.Goals as goal

pub returns : goal.returns
returns g c = (λ full. sym c.place.ensures ∙ eqb-true c.place.result max_entries full, λ many. eq-eqb c.place.result max_entries (c.place.ensures ∙ many))

use Rattle.std.proofs.Common.{Bor, List, ℕ, ap, option_map, refl}
use Rattle.covrun.proofs.Endings.{answer_reported}
use Rattle.covrun.proofs.output.report_answer.Goals as goal

pub returns-in-None : goal.returns-in-None
returns-in-None g c =
    rw (← c.world.view_is)
    (answer_reported _ (ap (option_map (λ (name : Bor (List ℕ)). name.now)) c.in-None.is) _ _ _ _ (refl, refl) c.print_answer.ensures)

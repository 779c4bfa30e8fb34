use Rattle.std.proofs.Common.{List, subst}
use Rattle.covbook.specs.View.{op_data}
use Rattle.covjobs.specs.Inputs.{InputData, IsCollected, IsOutcomeOf}
use Rattle.covjobs.specs.InputView.{input_data}
use Rattle.covworkers.proofs.ReadWhole.{collected_said}
use Rattle.covjobs.proofs.collected.collect.Goals as goal

-- what is collected from the inputs is collected from what they say
pub returns-in-Ok-clause-collected : goal.returns-in-Ok-clause-collected
returns-in-Ok-clause-collected g c =
    subst (λ (inputs : List InputData). IsCollected inputs c.args.jobs (op_data c.args.last.now) c.in-Ok.collected.entries c.in-Ok.collected.logs c.in-Ok.collected.refused) c.in_ok-inputs.ensures
    (collected_said IsOutcomeOf (λ input. input_data input.now) c.in_ok-inputs.inputs.items c.args.jobs (op_data c.args.last.now) c.in-Ok.collected.entries c.in-Ok.collected.logs c.in-Ok.collected.refused c.in-Ok.ensures.collected)

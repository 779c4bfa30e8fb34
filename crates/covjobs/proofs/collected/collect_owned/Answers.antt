use Rattle.covbook.specs.View.{op_data}
use Rattle.covjobs.specs.Inputs.{IsOutcomeOf}
use Rattle.covjobs.specs.InputView.{input_data}
use Rattle.covworkers.proofs.ReadWhole.{collected_said}
use Rattle.covjobs.proofs.collected.collect_owned.Goals as goal

-- what is collected from the inputs is collected from what they say
pub returns-in-Ok-clause-collected : goal.returns-in-Ok-clause-collected
returns-in-Ok-clause-collected g c =
    collected_said IsOutcomeOf input_data c.args.inputs.items c.args.jobs (op_data c.args.last.now) c.in-Ok.collected.entries c.in-Ok.collected.logs c.in-Ok.collected.refused c.in-Ok.ensures.collected

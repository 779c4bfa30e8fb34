use Rattle.std.proofs.Common.{arith}
use Rattle.covreport.specs.ChoiceView.{choice_data}
use Rattle.covreport.proofs.Room.{most_goes_on, most_ends}
use Rattle.covreport.proofs.tracefile.room.most_functions_in.Goals as goal

pub loop-section-init : goal.loop-section-init
loop-section-init g c = omega arith

pub loop-section-preserved : goal.loop-section-preserved
loop-section-preserved g c =
    most_goes_on (choice_data c.args.choice.now) _ _ _ _ c.loop-section.most c.functions_to_print.result _
    c.in-Some.ensures c.loop-section.invariant c.functions_to_print.ensures c.max-most.ensures

pub returns : goal.returns
returns g c = most_ends (choice_data c.args.choice.now) _ _ c.loop-section.most c.in_default.ensures.0 c.loop-section.invariant

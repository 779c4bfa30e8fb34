use Rattle.std.proofs.Common.{◌≡◌, max, length}
use Rattle.covreport.specs.ChoiceView.{choice_data}
use Rattle.covreport.specs.Room.{most_functions}
use Rattle.covreport.proofs.tracefile.room.most_functions_in.Given as goal

abbrev pub invariant-loop-section : goal.invariant-loop-section
invariant-loop-section g l =
    let left = g.I.TableSections.left in
    max l.most (most_functions (choice_data l.choice) (left l.sections)) ≡ most_functions (choice_data l.choice) (left l.initial.sections)

abbrev pub decreases-loop-section : goal.decreases-loop-section
decreases-loop-section g l = length (g.I.TableSections.left l.sections)

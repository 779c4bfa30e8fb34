use Rattle.std.proofs.Common.{◌≡◌, ◌++◌, ◌≤◌, false, length}
use Rattle.std.specs.Prelude.{vec_capacity}
use Rattle.covreport.specs.ChoiceView.{choice_data}
use Rattle.covreport.specs.Report.{report_text}
use Rattle.covreport.specs.Room.{most_functions}
use Rattle.covreport.proofs.tracefile.put_sections.Given as goal

abbrev pub invariant-loop-section : goal.invariant-loop-section
invariant-loop-section g l =
    let text = g.P.Printer.text in
    let left = g.I.TableSections.left in
    record {
      written : text l.out ++ report_text (choice_data l.choice) (left l.sections) ≡ text l.fn.out ++ report_text (choice_data l.choice) (left l.initial.sections);
      room : most_functions (choice_data l.choice) (left l.sections) ≤ vec_capacity l.functions;
      closed : g.P.Printer.is_open l.fn.out ≡ false → (g.P.Printer.is_open l.out ≡ false) × (text l.out ≡ text l.fn.out);
    }

abbrev pub decreases-loop-section : goal.decreases-loop-section
decreases-loop-section g l = length (g.I.TableSections.left l.sections)

use Rattle.covtable.specs.Value.{is_taken}
use Rattle.covdata.specs.Printed.{printed}
use Rattle.covreport.specs.Report.{branch_record}
use Rattle.covtable.specs.Content.{BranchValueData}
use Rattle.covreport.proofs.Texts.{IsPrinted}
use Rattle.covreport.proofs.tracefile.branches.put_branches.Given as goal

abbrev pub invariant-loop-branch : goal.invariant-loop-branch
invariant-loop-branch g l =
    IsPrinted (λ (v : BranchValueData). printed (branch_record v)) (λ (v : BranchValueData). is_taken v.taken) (g.C.TableSection.shown l.fn.section).branches (g.C.TableSection.branches_left l.branch-iterator) (g.P.Printer.text l.fn.out) (g.P.Printer.text l.out) l.tally.0 l.tally.1.0

use Rattle.std.proofs.Common.{nat_lt}
use Rattle.covdata.specs.Printed.{printed}
use Rattle.covreport.specs.Report.{line_record}
use Rattle.covtable.specs.Content.{LineValueData}
use Rattle.covreport.proofs.Texts.{IsPrinted}
use Rattle.covreport.proofs.tracefile.lines.put_lines.Given as goal

abbrev pub invariant-loop-line : goal.invariant-loop-line
invariant-loop-line g l =
    IsPrinted (λ (v : LineValueData). printed (line_record v)) (λ (v : LineValueData). nat_lt 0 v.count) (g.C.TableSection.shown l.fn.section).lines (g.C.TableSection.lines_left l.line-iterator) (g.P.Printer.text l.fn.out) (g.P.Printer.text l.out) l.tally.0 l.tally.1.0

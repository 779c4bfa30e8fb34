use Rattle.std.proofs.Common.{drop, map, nat_lt}
use Rattle.covdata.specs.Printed.{printed}
use Rattle.covreport.specs.Report.{call_record}
use Rattle.covreport.proofs.Texts.{IsPrinted}
use Rattle.covtable.specs.Content.{FunctionValueData}
use Rattle.covreport.specs.FunctionView.{printed_function}
use Rattle.covreport.proofs.tracefile.functions.put_calls.Given as goal

abbrev pub invariant-loop-function : goal.invariant-loop-function
invariant-loop-function g l =
    IsPrinted (λ (f : FunctionValueData). printed (call_record f)) (λ (f : FunctionValueData). nat_lt 0 f.count) (map printed_function l.functions) (map printed_function (drop l.function-index l.functions)) (g.P.Printer.text l.fn.out) (g.P.Printer.text l.out) l.tally.0 l.tally.1.0

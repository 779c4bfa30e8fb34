use Rattle.std.proofs.Common.{◌≡◌, ◌++◌, drop, map}
use Rattle.std.specs.List.{flat_map}
use Rattle.covdata.specs.Printed.{printed}
use Rattle.covreport.specs.Report.{start_record}
use Rattle.covtable.specs.Content.{FunctionValueData}
use Rattle.covreport.specs.FunctionView.{printed_function}
use Rattle.covreport.proofs.tracefile.functions.put_starts.Given as goal

abbrev pub invariant-loop-function : goal.invariant-loop-function
invariant-loop-function g l =
    let part = λ (f : FunctionValueData). printed (start_record f) in
    g.P.Printer.text l.out ++ flat_map part (map printed_function (drop l.function-index l.functions)) ≡ g.P.Printer.text l.fn.out ++ flat_map part (map printed_function l.functions)

use Rattle.std.proofs.Common.{◌≡◌, List, length, map, ap, ◌∙◌, arith}
use Rattle.std.proofs.lemmas.List.{length-map}
use Rattle.covtable.specs.Content.{FunctionValueData}
use Rattle.covreport.specs.FunctionView.{printed_function}
use Rattle.covreport.specs.Report.{by_start}
use Rattle.covreport.specs.declared.tracefile.functions.PrintedFunction.{PrintedFunction}
use Rattle.covreport.proofs.ByStart.{functions_sorted, length-by_start}
use Rattle.covreport.proofs.tracefile.functions.sort_by_start_line.Goals as goal

pub returns-clause-all : goal.returns-clause-all
returns-clause-all g c =
    functions_sorted printed_function (g.C.TableSection.shown c.args.section.now).functions c.collect.new.functions.items c.sort_unstable.new.self.items c.collect.ensures.all
    c.sort_unstable.ensures.permutation c.sort_unstable.ensures.sorted

pub returns-clause-few : goal.returns-clause-few
returns-clause-few g c =
    let given : List FunctionValueData = (g.C.TableSection.shown c.args.section.now).functions in
    let sorted : List PrintedFunction = c.sort_unstable.new.self.items in
    let all : map printed_function sorted ≡ by_start given =
    functions_sorted printed_function given c.collect.new.functions.items sorted c.collect.ensures.all c.sort_unstable.ensures.permutation c.sort_unstable.ensures.sorted in
    omega (arith, length-map sorted printed_function, ap length all, length-by_start given, c.collect.ensures.few)

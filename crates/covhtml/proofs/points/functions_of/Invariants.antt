use Rattle.std.proofs.Common.{◌≡◌, ◌++◌, map}
use Rattle.covtable.specs.ValuesView.{function_data}
use Rattle.covhtml.proofs.points.functions_of.Given as goal

abbrev pub invariant-loop-function : goal.invariant-loop-function
invariant-loop-function g l = map function_data l.functions.items ++ g.C.TableSection.functions_left l.function-iterator ≡ (g.C.TableSection.shown l.fn.section).functions

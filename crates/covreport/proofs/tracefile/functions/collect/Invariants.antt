use Rattle.std.proofs.Common.{◌≡◌, ◌++◌, length, map}
use Rattle.std.specs.Prelude.{vec_len, vec_capacity}
use Rattle.covreport.specs.FunctionView.{printed_function}
use Rattle.covreport.proofs.tracefile.functions.collect.Given as goal

abbrev pub invariant-loop-function : goal.invariant-loop-function
invariant-loop-function g l = record {
  collected : map printed_function l.functions.items ++ g.C.TableSection.functions_left l.function-iterator ≡ (g.C.TableSection.shown l.fn.section).functions;
  counted : vec_len l.functions ≡ length l.functions.items;
  room : vec_capacity l.functions ≡ vec_capacity l.fn.functions;
}

use Rattle.std.proofs.Common.{◌≡◌, ◌+◌, length}
use Rattle.covreport.proofs.tracefile.room.count_functions.Given as goal

abbrev pub invariant-loop-function : goal.invariant-loop-function
invariant-loop-function g l = l.count + length (g.C.TableSection.functions_left l._function-iterator) ≡ length (g.C.TableSection.shown l.fn.section).functions

use Rattle.std.proofs.Common.{◌≡◌, ◌++◌, map, take}
use Rattle.covread.specs.GcovItems.{func_item}
use Rattle.covread.specs.GcovSteps.{func_data}
use Rattle.covread.proofs.gcov.reader.push_functions.Given as goal

abbrev pub invariant-loop-function : goal.invariant-loop-function
invariant-loop-function g l = record {
  sects : l.sects.sects ≡ l.initial.sects.sects;
  items : l.sects.items ≡ l.initial.sects.items ++ map (func_item l.line) (map func_data (take l.function-index l.functions));
}

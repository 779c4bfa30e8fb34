use Rattle.std.proofs.Common.{List, ap, refl, ◌∙◌, ◌++◌, map}
use Rattle.std.proofs.lemmas.List.{take_all}
use Rattle.covread.specs.GcovItems.{func_item}
use Rattle.covread.specs.GcovSteps.{func_data}
use Rattle.covread.specs.declared.gcov.reader.Function.{Function}
use Rattle.covread.proofs.GcovLoop.{pushed_more}
use Rattle.covread.proofs.gcov.reader.push_functions.Goals as goal

pub loop-function-preserved : goal.loop-function-preserved
loop-function-preserved g c = record {
  sects = c.push_function.ensures.sects ∙ c.loop-function.invariant.sects;
  items = pushed_more c.args.line c.args.sects.now.items c.loop-function.sects.items c.push_function.new.self.items c.args.functions.now c.loop-function.function-index _ _ c.loop-function-test.true c.loop-function.invariant.items refl c.in_ok-push_function.ensures.ok;
}

pub returns-clause-ok : goal.returns-clause-ok
returns-clause-ok g c =
    c.loop-function.invariant.items ∙ ap (λ (fs : List Function). c.args.sects.now.items ++ map (func_item c.args.line) (map func_data fs)) (take_all c.loop-function.function-index c.args.functions.now c.loop-function-test.false)
